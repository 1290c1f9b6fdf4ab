-- `ring_play::shared::count_planted` meets its contract: the struck heads that the walk has passed gave what is planted.
use Rattle.std.proofs.Common.{arith}
use Rattle.frame_slots.specs.Slots.{planted_in}
use Rattle.ring_play.proofs.round.Struck.{walk_starts, walk_turn, walk_on, walk_ends}
use Rattle.ring_play.proofs.shared.Counting.{counted_planted, told_none, told_pass, told_heard}
use Rattle.ring_play.proofs.shared.count_planted.Goals as goal

pub loop-k-init : goal.loop-k-init
loop-k-init c = walk_starts (rw c.into_iter-k-iterator.ensures.into_iter_gives c.struck_heads-k-items.ensures) (told_none _ _ _ _ _)

pub loop-k-preserved : goal.loop-k-preserved
loop-k-preserved c =
    let a = c.args in
    let k = c.in-Some.k in
    let plant = planted_in a.planted.now a.lengths.now in
    let t = walk_turn c.loop-k.invariant (told_pass _ _ _ _ _) c.in-Some.ensures.steps.1.0 c.in-Some.ensures.steps.1.1 in
    walk_on c.loop-k.invariant k c.in-Some.ensures.steps
    (told_heard a.s plant a.i a.codes.now a.same.now k t.2 (omega (arith, t.0)) c.requires.1 t.1
    (counted_planted a.s plant a.i a.codes.now k c.head_count-n.ensures c.planted-frame.ensures c.count_frame-confessed.ensures))

pub returns : goal.returns
returns c =
    let t = walk_ends c.loop-k.invariant (told_pass _ _ _ _ _) c.in-None.ensures.steps.1 in
    record { counts = t.counted; confesses = t.confesses }
