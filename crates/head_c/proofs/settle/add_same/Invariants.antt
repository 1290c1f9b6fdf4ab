-- Before entry j, the counts below j have one more if the two words are the same, and the others are as they were.
use mathlib.Core.Bool.{Bool}
use mathlib.Core.List.{List}
use Prim.Native.Nat.{ℕ}
use lib.ListN.{get_or}
use Rattle.terms.specs.Positions.{eq_z}
use Rattle.fields.specs.Bytes.{signed_of}
use Rattle.settle_position.proofs.Counting.{AddedTo}
use Rattle.head_c.proofs.settle.add_same.Given as goal

abbrev pub same_at : List ℕ → List ℕ → ℕ → Bool
same_at a b j = eq_z (signed_of (get_or a j 0)) (signed_of (get_or b j 0))

abbrev pub invariant-loop-j : goal.invariant-loop-j
invariant-loop-j l = AddedTo (same_at l.a l.b) l.initial.same l.j l.same
