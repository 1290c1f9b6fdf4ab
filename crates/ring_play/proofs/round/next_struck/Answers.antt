-- `ring_play::round::next_struck` meets its contract: the lowest bit of what is left of the word after a shift by k.
use Rattle.std.proofs.Common.{arith}
use Rattle.ring_play.proofs.round.Struck.{next_found, next_none}
use Rattle.ring_play.proofs.round.next_struck.Goals as goal

pub returns-then-j-n : goal.returns-then-j-n
returns-then-j-n c =
    next_found c.args.s c.args.k (omega (arith, c.head_count-n.ensures)) (omega (arith, c.head_count-n.ensures))

pub returns-else-j-n : goal.returns-else-j-n
returns-else-j-n c =
    rw c.head_count-n.ensures (next_none c.args.s c.args.k (omega (arith, c.head_count-n.ensures)) (omega (arith, c.head_count-n.ensures)))
