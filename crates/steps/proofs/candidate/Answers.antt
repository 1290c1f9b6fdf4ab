-- `steps::candidate` meets its contract: a reading within 10^12 times the denominator fits 64 bits, with a numerator added too.
use mathlib.Core.Path.{◌≡◌, ◌∙◌, sym, ap, ap₂}
use Prim.Native.Nat.{◌-◌}
use native.Mathlib.Omega.{arith}
use lib.IntN.{ℤ, pos, ◌+ℤ◌, ◌*ℤ◌}
use mir.Syntax.{w64}
use mir.Val.{SFits, to_z}
use mir.Facts.{to_z-of_z}
use Rattle.terms.specs.Positions.{floor_div}
use Rattle.terms.proofs.Whole.{plus, minus, arithZ, sum_lin, pos_lin}
use Rattle.terms.proofs.Machine.{read, fits_as, read_as, wide_natural_is, range_fits_lem}
use Rattle.steps.proofs.Floor.{scale_within}
use Rattle.steps.proofs.OneStep.{scale_above, reading_product_bound, only_rounded_up}
use Rattle.steps.proofs.candidate.Goals as goal

module _ (c : goal.Start) where
  abbrev product : ℤ
  product = c.args.reading *ℤ pos c.args.denominator

  product_is : read w64 c.args.reading *ℤ to_z w64 c.args.denominator ≡ product
  product_is = ap₂ ◌*ℤ◌ (to_z-of_z c.ranges.reading) (wide_natural_is c.ranges.denominator)

  product_fits : SFits w64 product
  unfolding plus minus
  product_fits = range_fits_lem (omega (arithZ, reading_product_bound _ _ c.requires.1 _ c.requires.0))

  abbrev divided : ℤ
  divided = product +ℤ pos (c.args.numerator - 1)

  divided_is : read w64 (read w64 c.args.reading *ℤ to_z w64 c.args.denominator) +ℤ to_z w64 (c.args.numerator - 1) ≡ divided
  divided_is = ap₂ ◌+ℤ◌ (read_as product_is product_fits) (wide_natural_is (omega (arith, c.ranges.numerator)))

  divided_fits : SFits w64 divided
  unfolding plus minus
  divided_fits =
      range_fits_lem
      (omega
      (arithZ, reading_product_bound _ _ c.requires.1 _ c.requires.0, sum_lin product (pos (c.args.numerator - 1)), pos_lin (c.args.numerator - 1), (scale_within _ _ c.requires.1).0))

pub overflow_mul-product : goal.overflow_mul-product
overflow_mul-product c = fits_as (product_is c) (product_fits c)

pub overflow_sub-numerator : goal.overflow_sub-numerator
overflow_sub-numerator c = omega (arith, scale_above _ _ c.requires.1)

pub overflow_add-product : goal.overflow_add-product
overflow_add-product c = fits_as (divided_is c) (divided_fits c)

pub floor_div-requires : goal.floor_div-requires
floor_div-requires c = scale_above _ _ c.requires.1

pub returns : goal.returns
returns c w e =
    only_rounded_up _ _ c.requires.1 _ w e
    ∙ ap (λ (z : ℤ). floor_div z c.args.numerator) (sym (read_as (divided_is c.before) (divided_fits c.before)))
    ∙ sym c.floor_div.ensures
    ∙ sym (to_z-of_z {w = w64} (record { sfits = c.floor_div.type_inv }))
