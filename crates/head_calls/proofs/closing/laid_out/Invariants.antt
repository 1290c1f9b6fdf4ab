-- Row after row: after k turns the first k rows are the entries of the first k lists.
use mathlib.Core.Path.{◌≡◌}
use mathlib.Core.List.{[]}
use Prim.Native.Nat.{ℕ, ◌<◌}
use lib.ListN.{length, get_or}
use Rattle.head_spec.specs.Record.{rows}
use Rattle.head_calls.proofs.closing.laid_out.Given as goal

abbrev pub invariant-loop-k : goal.invariant-loop-k
invariant-loop-k l = (length l.out ≡ 32) × ((i : ℕ) → i < l.k → get_or l.out i [] ≡ get_or (rows l.fn.lists) i [])
