-- What is claimed of the floats: that `exact` is the right one, and that the code's operations on positions round nothing.
-- proofs/Exactness.antt and proofs/Patterns.antt prove it.
use Rattle.std.specs.Prelude.{◌≡◌, true, ℕ, ◌^◌, ◌≤◌, ◌<◌, T, ℤ, nat_abs, ◌+ℤ◌, Float}
use Rattle.std.specs.Float.{binary32}
use Rattle.std.specs.Float.Ieee.{add, mul, fits, of_int, of_bits, to_bits}
use Rattle.terms.specs.Positions.{is_position}
use Rattle.reading.specs.Exact.{exact, Is}
use Rattle.reading.specs.Bits.{bits_of}

-- `exact k z` is the number z / 2 ^ k; for the numbers met here an f32 holds it, and no other f32 is that number with that sign (Q102)
pub record RightFloat : Type 0 where
  pub is : (k : ℕ) (z : ℤ) → Is (exact k z) z (2 ^ k)
  pub holds : (k : ℕ) (z : ℤ) → k ≤ 149 → nat_abs z < 2 ^ 24 → T (fits binary32 (exact k z))
  pub only : (k : ℕ) (z : ℤ) (x : Float) → k ≤ 149 → nat_abs z < 2 ^ 24 → T (fits binary32 x) → Is x z (2 ^ k) → x ≡ exact k z
  pub bits : (k : ℕ) (z : ℤ) → k ≤ 1 → nat_abs z < 2 ^ 24 → to_bits binary32 (exact k z) ≡ bits_of k z

-- a position cast to f32, and the f32 sum of two positions times one half (3f000000; Q102)
pub record NothingRounded : Type 0 where
  pub cast : (z : ℤ) → is_position z ≡ true → of_int binary32 z ≡ exact 0 z
  pub midpoint : (a b : ℤ) → is_position a ≡ true → is_position b ≡ true
      → mul binary32 (add binary32 (exact 0 a) (exact 0 b)) (of_bits binary32 0x3f00_0000) ≡ exact 1 (a +ℤ b)
