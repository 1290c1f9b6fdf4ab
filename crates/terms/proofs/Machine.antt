-- Signed numbers as the machine holds them. It reads back what it wrote wherever that fits the width. Half of a sum of two numbers of 32 bits is worked out
-- in 64 bits and fits 32 again. Of a number below zero it takes -1 - z, which turns the sign and keeps the size, so that it fits wherever z does.
use mathlib.Core.Path.{◌≡◌, refl, sym, ◌∙◌, ap, ap₂, subst}
use mathlib.Core.Bool.{Bool, true, false, true≢false}
use Prim.Native.Nat.{ℕ, zero, suc, ◌-◌, ◌≤◌, ◌<◌, ◌^◌}
use native.Mathlib.Nat.{zero-add}
use native.Mathlib.Omega.{arith}
use lib.Dec.{le→leb, leb→le}
use lib.Pow.{pow_pos}
use lib.IntN.{ℤ, pos, negsuc, ◌+ℤ◌, ◌-ℤ◌}
use lib.Signed.{mag, lt_z, shr_z, ◌≤ℤ◌}
use mir.Syntax.{Width, w32, w64}
use mir.Val.{Fits, SFits, bool_byte, to_z, of_z, hbits}
use mir.Facts.{to_z-of_z, to_z_pos, sfits_widen}
use borrow.Author.Tests.{le-ltb, ltb-true}
use Rattle.terms.specs.Positions.{is_position, floor_div, half}
use Rattle.terms.specs.Counting.{bit}
use Rattle.terms.proofs.Whole.{plus, minus, arithZ, sum_lin, pos_lin, half_lin, position_within}
use Rattle.terms.proofs.Sums.{bit_le}

-- what the machine reads of a number that it wrote
abbrev pub read : Width → ℤ → ℤ
read w z = to_z w (of_z w z)

-- x is y, and y fits: then x fits, and is read back as y
module _ {w : Width} {x y : ℤ} (e : x ≡ y) (f : SFits w y) where
  pub fits_as : SFits w x
  fits_as = subst (λ (z : ℤ). SFits w z) (sym e) f

  pub read_as : read w x ≡ y
  read_as = ap (read w) e ∙ to_z-of_z f

-- ---- a number below zero

-- -1 - z
abbrev pub turned : ℤ → ℤ
turned (pos n) = negsuc n
turned (negsuc n) = pos n

pub turned_is : (z : ℤ) → negsuc 0 -ℤ z ≡ turned z
turned_is (pos zero) = refl
turned_is (pos (suc k)) = ap (λ (n : ℕ). negsuc (suc n)) (zero-add k)
turned_is (negsuc n) =
    let h : 1 ≤ suc n = omega arith in
    rw (le-ltb (suc n) 1 h) (ap pos (omega arith))

pub turned_fits : {w : Width} (z : ℤ) → SFits w z → SFits w (turned z)
turned_fits (pos n) f = record { sfits = f.sfits }
turned_fits (negsuc n) f = record { sfits = f.sfits }

-- by its sign a number is its size, or one less than its size below zero
pub negative_is : (z : ℤ) → lt_z z (pos 0) ≡ true → z ≡ negsuc (mag z)
negative_is (pos n) t = let h : n < 0 = ltb-true n 0 t in absurd (omega arith)
negative_is (negsuc n) t = refl

pub natural_is : (z : ℤ) → lt_z z (pos 0) ≡ false → z ≡ pos (mag z)
natural_is (pos n) t = refl
natural_is (negsuc n) t = absurd (true≢false t)

-- ---- 32 bits and 64

-- a number of 32 bits, cast to 64
module _ {z : ℤ} (f : SFits w32 z) where
  pub wide_fits : SFits w64 (read w32 z)
  wide_fits = fits_as (to_z-of_z f) (sfits_widen tt f)

  pub wide_is : read w64 (read w32 z) ≡ z
  wide_is = read_as {w = w64} (to_z-of_z f) (sfits_widen tt f)

-- the same of one with no sign
pub wide_natural_is : {n : ℕ} → Fits w32 n → to_z w64 n ≡ pos n
wide_natural_is f = to_z_pos w64 (omega arith)

-- the numbers that fit a width are those from -H to H - 1, with H half the width's power
abbrev InWidth : Width → ℤ → Type 0
InWidth w z = (negsuc (2 ^ hbits w - 1) ≤ℤ z) × (z ≤ℤ pos (2 ^ hbits w - 1))

pub fits_range : {w : Width} {z : ℤ} → SFits w z → InWidth w z
fits_range {w} {z = pos n} f = (record { le = tt }, record { le = le→leb n (2 ^ hbits w - 1) (omega arith) })
fits_range {w} {z = negsuc n} f = (record { le = le→leb n (2 ^ hbits w - 1) (omega arith) }, record { le = tt })

pub range_fits_lem : {w : Width} {z : ℤ} → InWidth w z → SFits w z
range_fits_lem {w} {z = pos n} h = record { sfits = omega (arith, leb→le n _ h.1.le, pow_pos (hbits w)) }
range_fits_lem {w} {z = negsuc n} h = record { sfits = omega (arith, leb→le n _ h.0.le, pow_pos (hbits w)) }

pub position_fits : (v : ℤ) → is_position v ≡ true → SFits w32 v
unfolding plus minus
position_fits v h = range_fits_lem (omega (arithZ, position_within v h))

-- ---- half of a sum

-- a shift to the right rounds down
pub shift_floors : (z : ℤ) (m : ℕ) → shr_z z m ≡ floor_div z m
unfolding floor_div
shift_floors (pos n) m = refl
shift_floors (negsuc n) m = refl

-- a bool, cast to 64 bits
wide_bit_is : (up : Bool) → to_z w64 (bool_byte up) ≡ pos (bit up)
wide_bit_is true = refl
wide_bit_is false = refl

module _ (a b : ℤ) (f : SFits w32 a) (g : SFits w32 b) where
  abbrev wide_sum : ℤ
  wide_sum = read w64 (read w32 a) +ℤ read w64 (read w32 b)

  wide_sum_is : wide_sum ≡ a +ℤ b
  wide_sum_is = ap₂ ◌+ℤ◌ (wide_is f) (wide_is g)

  sum_fits : SFits w64 (a +ℤ b)
  unfolding plus minus
  sum_fits = range_fits_lem (omega (arithZ, fits_range f, fits_range g, sum_lin a b))

  pub wide_sum_fits : SFits w64 wide_sum
  wide_sum_fits = fits_as wide_sum_is sum_fits

  -- with 1 added if an odd sum is rounded up
  module _ (up : Bool) where
    abbrev to_halve : ℤ
    to_halve = read w64 wide_sum +ℤ to_z w64 (bool_byte up)

    to_halve_is : to_halve ≡ (a +ℤ b) +ℤ pos (bit up)
    to_halve_is = ap₂ ◌+ℤ◌ (read_as wide_sum_is sum_fits) (wide_bit_is up)

    plain_fits : SFits w64 ((a +ℤ b) +ℤ pos (bit up))
    unfolding plus minus
    plain_fits =
        range_fits_lem (omega (arithZ, fits_range f, fits_range g, sum_lin a b, sum_lin (a +ℤ b) (pos (bit up)), pos_lin (bit up), bit_le up))

    half_fits : SFits w32 (half (bit up) (a +ℤ b))
    unfolding plus minus
    half_fits = range_fits_lem (omega (arithZ, fits_range f, fits_range g, sum_lin a b, half_lin (bit up) (a +ℤ b), bit_le up))

    shifted_is : read w64 (shr_z (read w64 to_halve) 2) ≡ half (bit up) (a +ℤ b)
    unfolding half
    shifted_is =
        read_as {w = w64} (ap (λ (z : ℤ). shr_z z 2) (read_as {w = w64} to_halve_is plain_fits) ∙ shift_floors ((a +ℤ b) +ℤ pos (bit up)) 2) (sfits_widen tt half_fits)

    pub to_halve_fits : SFits w64 to_halve
    to_halve_fits = fits_as to_halve_is plain_fits

    pub shifted_fits : SFits w32 (read w64 (shr_z (read w64 to_halve) 2))
    shifted_fits = fits_as shifted_is half_fits

    pub half_sum_is : read w32 (read w64 (shr_z (read w64 to_halve) 2)) ≡ half (bit up) (a +ℤ b)
    half_sum_is = read_as shifted_is half_fits
