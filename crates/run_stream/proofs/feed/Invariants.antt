-- `run_stream::feed` meets its contract: at the head of the loop the bytes before `used` have shown nothing, and the state is that after them.
use Prim.Native.Nat.{◌-◌}
use lib.ListN.{length}
use Rattle.run_stream.proofs.Pieces.{Still}
use Rattle.run_stream.proofs.feed.Given as goal

abbrev pub invariant-loop-used : goal.invariant-loop-used
invariant-loop-used l =
    Still l.bytes l.initial.player
    l.initial.carry (record { positions = l.initial.positions; marks = l.initial.marks; lists = l.initial.lists; planted = l.initial.planted; lengths = l.initial.lengths })
    l.player
    l.carry (record { positions = l.positions; marks = l.marks; lists = l.lists; planted = l.planted; lengths = l.lengths })
    l.used

abbrev pub decreases-loop-used : goal.decreases-loop-used
decreases-loop-used l = length l.bytes - l.used
