-- `terms::rounds_up` meets its contract: the phase after an even one is odd.
use mathlib.Core.Path.{◌≡◌}
use mathlib.Core.Logic.{by_cases}
use Prim.Native.Nat.{ℕ, ◌%◌}
use native.Mathlib.Decide.{ℕ_discrete}
use native.Mathlib.Omega.{arith}
use borrow.Author.Tests.{eq-eqb, ne_eqb}
use lib.Dec.{eqb}
use Rattle.terms.specs.Counting.{bit}
use Rattle.terms.specs.Positions.{rounding}
use Rattle.terms.proofs.rounds_up.Goals as goal

even_up : (p : ℕ) → bit (eqb (p % 2) 0) ≡ rounding p
unfolding rounding
even_up p = by_cases (ℕ_discrete (p % 2) 0) (λ e. rw (eq-eqb _ _ e) (omega arith)) (λ e. rw (ne_eqb _ _ e) (omega arith))

pub returns : goal.returns
returns c = even_up _
