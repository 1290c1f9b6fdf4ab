-- `entries::all_fit` meets its contract. The loop's invariant: the flag says whether the first i entries fit, for every mark word that marks all n.
use mathlib.Core.Path.{◌≡◌}
use mathlib.Core.Bool.{true}
use Prim.Native.Nat.{ℕ}
use Rattle.marks.specs.Marks.{all_marked}
use Rattle.entries.specs.Entries.{entries_fit}
use Rattle.entries.proofs.all_fit.Given as goal

abbrev pub invariant-loop-i : goal.invariant-loop-i
invariant-loop-i l = (m : ℕ) → all_marked m l.n ≡ true → l.fit ≡ entries_fit m l.s l.i
