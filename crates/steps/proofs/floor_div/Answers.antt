-- `steps::floor_div` meets its contract: a negative x is divided as -1 - x, which is not negative.
use mathlib.Core.Path.{◌≡◌, ◌∙◌, ap}
use Prim.Native.Nat.{ℕ}
use lib.IntN.{ℤ}
use mir.Syntax.{w64}
use mir.Val.{SFits}
use mir.Facts.{to_z-of_z, Fits-of_z, sfits_to_z}
use Rattle.terms.specs.Positions.{floor_div}
use Rattle.terms.proofs.Machine.{read}
use Rattle.steps.proofs.Machine.{minus_fits, quotient_fits, negative_floor_fits, negative_floor_is, natural_floor_fits, natural_floor_is}
use Rattle.steps.proofs.floor_div.Goals as goal

-- x as the machine reads it
module _ {x : ℤ} (f : SFits w64 x) where
  read_fits : SFits w64 (read w64 x)
  read_fits = sfits_to_z (Fits-of_z f)

  answer_is : (d : ℕ) → floor_div (read w64 x) d ≡ floor_div x d
  answer_is d = ap (λ (z : ℤ). floor_div z d) (to_z-of_z f)

pub overflow_sub-result : goal.overflow_sub-result
overflow_sub-result c = minus_fits _ _ (read_fits c.ranges.x) c.ranges.d c.if-x-lt0.true

pub nonzero_div-result : goal.nonzero_div-result
nonzero_div-result c = (c.requires, quotient_fits _ _ (read_fits c.ranges.x) c.ranges.d c.if-x-lt0.true)

pub overflow_sub-result-then-x-lt0 : goal.overflow_sub-result-then-x-lt0
overflow_sub-result-then-x-lt0 c = negative_floor_fits _ _ (read_fits c.ranges.x) c.ranges.d c.if-x-lt0.true

pub nonzero_div-result-else-x-lt0 : goal.nonzero_div-result-else-x-lt0
nonzero_div-result-else-x-lt0 c = (c.requires, natural_floor_fits _ _ (read_fits c.ranges.x) c.ranges.d c.if-x-lt0.false)

pub returns-then-x-lt0 : goal.returns-then-x-lt0
returns-then-x-lt0 c = negative_floor_is _ _ (read_fits c.ranges.x) c.ranges.d c.if-x-lt0.true ∙ answer_is c.ranges.x _

pub returns-else-x-lt0 : goal.returns-else-x-lt0
returns-else-x-lt0 c = natural_floor_is _ _ (read_fits c.ranges.x) c.ranges.d c.if-x-lt0.false ∙ answer_is c.ranges.x _
