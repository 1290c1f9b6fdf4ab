-- The bits of each float of a reading are those made from whole numbers, so the two lines are the same.
use Rattle.std.specs.Prelude.{None, Some}
use mathlib.Core.Path.{◌≡◌, refl, ap}
use mathlib.Core.Bool.{Bool, true, false, cond, ◌&&◌}
use mathlib.Core.List.{List}
use Prim.Native.Nat.{ℕ, ◌≤◌}
use native.Mathlib.Omega.{arith}
use lib.IntN.{ℤ, nat_abs, ◌+ℤ◌}
use Rattle.terms.specs.Positions.{is_position, eq_z}
use Rattle.terms.proofs.Booleans.{and_both}
use Rattle.texts.specs.Numbers.{decimal, hex, spaced}
use Rattle.reading.specs.declared.Reading.{Reading}
use Rattle.reading.specs.Exact.{exact}
use Rattle.reading.specs.Readings.{range_of, reading_between}
use Rattle.reading.proofs.Exactness.{position_size, sum_size}
use Rattle.reading.proofs.Patterns.{bits_of_exact}
use Rattle.hostpage.specs.Page.{line_ended, unknown, point, range, float_text, range_text, reading_text, reading_line}
use Rattle.hostpage.specs.FromNumbers.{digits_of, text_between, LineFromNumbers}

digits_are : (k : ℕ) (z : ℤ) → k ≤ 1 → nat_abs z ≤ 2_000_000 → float_text (exact k z) ≡ digits_of k z
unfolding float_text
digits_are k z l h = ap (hex 8) (bits_of_exact k z l (omega arith))

module _ (low high : ℤ) (p : is_position low ≡ true) (q : is_position high ≡ true) where
  low_size : nat_abs low ≤ 1_000_000
  low_size = position_size low p

  high_size : nat_abs high ≤ 1_000_000
  high_size = position_size high q

  low_is : float_text (exact 0 low) ≡ digits_of 0 low
  low_is = digits_are 0 low (omega arith) (omega (arith, low_size))

  high_is : float_text (exact 0 high) ≡ digits_of 0 high
  high_is = digits_are 0 high (omega arith) (omega (arith, high_size))

  midpoint_is : float_text (exact 1 (low +ℤ high)) ≡ digits_of 1 (low +ℤ high)
  midpoint_is = digits_are 1 (low +ℤ high) (omega arith) (omega (arith, sum_size low high, low_size, high_size))

between : (low high : ℤ) → reading_text (reading_between low high) ≡ text_between low high
unfolding reading_between text_between range_text range_of
between low high = go (is_position low && is_position high) (and_both (is_position low) (is_position high)) (eq_z low high)
  where
    go : (b : Bool) → (b ≡ true → (is_position low ≡ true) × (is_position high ≡ true)) → (e : Bool)
        → reading_text (cond b (cond e (Reading.Point (exact 0 low)) (Reading.Range (range_of low high))) Reading.Unknown)
        ≡ cond b (cond e (spaced point (line_ended (digits_of 0 low))) (spaced range (spaced (digits_of 0 low) (spaced (digits_of 0 high) (line_ended (digits_of 1 (low +ℤ high))))))) (line_ended unknown)
    go false p e = refl
    go true p true = let (l, h) = p refl in ap (λ (s : List ℕ). spaced point (line_ended s)) (low_is low high l h)
    go true p false = let (l, h) = p refl in rw (low_is low high l h, high_is low high l h, midpoint_is low high l h)

pub line_from_numbers : LineFromNumbers
unfolding reading_line
line_from_numbers head None = refl
line_from_numbers head (Some k) = ap (spaced (decimal head)) (between k.low k.high)
