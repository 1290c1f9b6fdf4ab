-- `run_stream::pass_plants` meets its contract: at the head of the loop the bytes before `used` have shown nothing, and the state is that after them.
use mathlib.Core.List.{List}
use Prim.Native.Nat.{ℕ, ◌-◌, ◌≤◌}
use lib.ListN.{length}
use Rattle.run_state.specs.Memory.{Memory, with_slots}
use Rattle.run_state.specs.Changes.{with_pair_planted}
use Rattle.run_stream.proofs.Pieces.{Still}
use Rattle.run_stream.proofs.pass_plants.Given as goal

abbrev pub invariant-loop-used : goal.invariant-loop-used
invariant-loop-used l =
    (l.used ≤ length l.bytes)
    × ((carry : List ℕ) (M : Memory) → Still l.bytes l.p carry (with_slots M l.initial.planted l.initial.lengths) (with_pair_planted l.p l.pair) carry (with_slots M l.planted l.lengths) l.used)

abbrev pub decreases-loop-used : goal.decreases-loop-used
decreases-loop-used l = length l.bytes - l.used
