-- `steps::nanometres_of` meets its contract: steps times numerator fits 64 bits by far.
use mathlib.Core.Path.{◌≡◌, ◌∙◌, ap, ap₂}
use lib.IntN.{ℤ, pos, ◌*ℤ◌}
use mir.Syntax.{w32, w64}
use mir.Val.{to_z, SFits}
use mir.Facts.{to_z-of_z}
use Rattle.terms.specs.Positions.{floor_div}
use Rattle.terms.proofs.Whole.{plus, minus, arithZ}
use Rattle.steps.specs.Scale.{nanometres}
use Rattle.steps.proofs.Floor.{scale_within, scale_product_bound}
use Rattle.terms.proofs.Machine.{read, fits_as, read_as, wide_fits, wide_is, wide_natural_is, range_fits_lem}
use Rattle.steps.proofs.nanometres_of.Goals as goal

product_is : (c : goal.Start) → read w64 (read w32 c.args.steps) *ℤ to_z w64 c.args.numerator ≡ c.args.steps *ℤ pos c.args.numerator
product_is c = ap₂ ◌*ℤ◌ (wide_is c.ranges.steps) (wide_natural_is c.ranges.numerator)

product_fits : (c : goal.Start) → SFits w64 (c.args.steps *ℤ pos c.args.numerator)
unfolding plus minus
product_fits c = range_fits_lem (omega (arithZ, scale_product_bound _ _ _ c.requires.0 c.requires.1))

pub overflow_cast-steps : goal.overflow_cast-steps
overflow_cast-steps c = wide_fits c.ranges.steps

pub overflow_mul-steps : goal.overflow_mul-steps
overflow_mul-steps c = fits_as (product_is c) (product_fits c)

pub floor_div-requires : goal.floor_div-requires
floor_div-requires c = (scale_within _ _ c.requires.1).1

pub returns : goal.returns
unfolding nanometres
returns c =
    to_z-of_z {w = w64} (record { sfits = c.floor_div.type_inv })
    ∙ c.floor_div.ensures
    ∙ ap (λ (z : ℤ). floor_div z c.args.denominator) (read_as (product_is c.before) (product_fits c.before))
