-- Entry after entry: those so far and those of the bytes that remain are all, and what remains is a batch if all is one. It ends where an entry is not
-- whole, or where nothing remains.
use mathlib.Core.Path.{◌≡◌}
use mathlib.Core.List.{List}
use Prim.Native.Nat.{ℕ, ◌+◌, ◌≤◌}
use lib.ListN.{length}
use Rattle.head_spec.specs.Batch.{deliveries_of, is_batch}
use Rattle.head_hear.proofs.cut.Given as goal

-- i entries are cut from s, and t remains
pub record Cutting (s t : List ℕ) (i : ℕ) : Type 0 where
  pub few : i + length t ≤ length s
  pub told : is_batch t ≡ is_batch s
  pub count : i + length (deliveries_of t) ≡ length (deliveries_of s)

abbrev pub invariant-loop-rest : goal.invariant-loop-rest
invariant-loop-rest l = Cutting l.batch l.rest l.entries

abbrev pub decreases-loop-rest : goal.decreases-loop-rest
decreases-loop-rest l = length l.rest
