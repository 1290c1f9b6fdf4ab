-- Division that rounds down, as the machine works it out: where x is negative, -1 - x is not, so that a division of it that rounds towards zero rounds x
-- down once it is turned back.
use mathlib.Core.Path.{◌≡◌, sym, ◌∙◌, ap, ap₂}
use mathlib.Core.Bool.{true, false}
use Prim.Native.Nat.{ℕ, ◌/◌}
use native.Mathlib.Nat.{div-le_self}
use lib.IntN.{ℤ, pos, negsuc, ◌-ℤ◌}
use lib.Signed.{mag, lt_z, quot_z, mag_shr}
use mir.Syntax.{w32, w64}
use mir.Val.{Fits, SFits, to_z}
use mir.ValLaws.{sfits_le}
use Rattle.terms.specs.Positions.{floor_div}
use Rattle.terms.proofs.Machine.{read, fits_as, read_as, turned_is, negative_is, natural_is, wide_natural_is, shift_floors}

module _ (x : ℤ) (d : ℕ) (f : SFits w64 x) (g : Fits w32 d) where
  floor_fits : SFits w64 (floor_div x d)
  floor_fits = fits_as (sym (shift_floors x d)) (sfits_le (mag_shr x d) f)

  module _ (t : lt_z x (pos 0) ≡ true) where
    minus_is : negsuc 0 -ℤ x ≡ pos (mag x)
    minus_is = ap (λ (z : ℤ). negsuc 0 -ℤ z) (negative_is x t) ∙ turned_is (negsuc (mag x))

    abbrev quotient : ℤ
    quotient = quot_z (read w64 (negsuc 0 -ℤ x)) (to_z w64 d)

    quotient_is : quotient ≡ pos (mag x / d)
    quotient_is = ap₂ quot_z (read_as {w = w64} minus_is (record { sfits = f.sfits })) (wide_natural_is g)

    negative_floor : negsuc 0 -ℤ read w64 quotient ≡ floor_div x d
    unfolding floor_div
    negative_floor =
        ap (λ (z : ℤ). negsuc 0 -ℤ z) (read_as quotient_is (sfits_le (div-le_self (mag x) d) f))
        ∙ turned_is (pos (mag x / d))
        ∙ ap (λ (z : ℤ). floor_div z d) (sym (negative_is x t))

    pub minus_fits : SFits w64 (negsuc 0 -ℤ x)
    minus_fits = fits_as minus_is (record { sfits = f.sfits })

    pub quotient_fits : SFits w64 quotient
    quotient_fits = fits_as quotient_is (sfits_le (div-le_self (mag x) d) f)

    pub negative_floor_fits : SFits w64 (negsuc 0 -ℤ read w64 quotient)
    negative_floor_fits = fits_as negative_floor floor_fits

    pub negative_floor_is : read w64 (negsuc 0 -ℤ read w64 quotient) ≡ floor_div x d
    negative_floor_is = read_as negative_floor floor_fits

  module _ (t : lt_z x (pos 0) ≡ false) where
    natural_floor : quot_z x (to_z w64 d) ≡ floor_div x d
    unfolding floor_div
    natural_floor = ap₂ quot_z (natural_is x t) (wide_natural_is g) ∙ ap (λ (z : ℤ). floor_div z d) (sym (natural_is x t))

    pub natural_floor_fits : SFits w64 (quot_z x (to_z w64 d))
    natural_floor_fits = fits_as natural_floor floor_fits

    pub natural_floor_is : read w64 (quot_z x (to_z w64 d)) ≡ floor_div x d
    natural_floor_is = read_as natural_floor floor_fits
