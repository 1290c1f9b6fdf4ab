-- Checks in a row, each with a number that is not 0. A row gives 0 exactly if each test holds and what stands at its end is 0; if a test fails it
-- gives that test's number, whatever stands at its end. Each law speaks of one check and the row after it, so that a row is taken check by check.
use mathlib.Core.Path.{◌≡◌, refl}
use mathlib.Core.Bool.{Bool, true, false, cond}
use Prim.Native.Nat.{ℕ, suc}
use native.Mathlib.Omega.{arith}
use lib.Dec.{eqb}
use borrow.Author.Tests.{ne_eqb}
use Rattle.terms.specs.Refusals.{check}

-- a check that gives 0: its test holds, and the row after it gives 0
pub passed : {rest : ℕ} (test : Bool) (n : ℕ) → check test (suc n) rest ≡ 0 → (test ≡ true) × (rest ≡ 0)
passed true n e = (refl, e)
passed false n e = absurd (omega arith)

-- more: the row `rest` with `last` at its end in place of 0. It gives `last` if the row gives 0, and else the same as the row; so with one check before both
pub followed : (test : Bool) (n rest more last : ℕ) → more ≡ cond (eqb rest 0) last rest
    → check test (suc n) more ≡ cond (eqb (check test (suc n) rest) 0) last (check test (suc n) rest)
followed true n rest more last e = e
followed false n rest more last e = rw (ne_eqb (suc n) 0 (omega arith))

-- a number that this check does not give comes from the row after it
pub comes_later : {rest : ℕ} (test : Bool) (n d : ℕ) → (n ≡ d → ⊥) → check test (suc n) rest ≡ suc d → (test ≡ true) × (rest ≡ suc d)
comes_later true n d other e = (refl, e)
comes_later false n d other e = absurd (other (omega arith))
