-- Worked patterns.
use mathlib.Core.Path.{◌≡◌, refl}
use lib.IntN.{pos, negsuc, ◌+ℤ◌}
use mathlib.Core.Bool.{false}
use lib.Ieee.{fin, binary32, to_bits, size, of_int, add, mul}
use Rattle.reading.specs.Exact.{exact}
use Rattle.reading.specs.Bits.{bits_of}
use Rattle.reading.proofs.Unrounded.{one_half}

zero : to_bits binary32 (exact 0 (pos 0)) ≡ 0x0000_0000
unfolding to_bits exact
zero = refl

five : to_bits binary32 (exact 0 (pos 5)) ≡ 0x40a0_0000
unfolding to_bits exact
five = refl

-- 0 and 1
half : to_bits binary32 (exact 1 (pos 0 +ℤ pos 1)) ≡ 0x3f00_0000
unfolding to_bits exact
half = refl

-- -3 and 3: +0
around_zero : to_bits binary32 (exact 1 (negsuc 2 +ℤ pos 3)) ≡ 0x0000_0000
unfolding to_bits exact
around_zero = refl

-- -1,000,000 and -999,999
lowest : to_bits binary32 (exact 1 (negsuc 999_999 +ℤ negsuc 999_998)) ≡ 0xc974_23f8
unfolding to_bits exact
lowest = refl

lowest_from_numbers : bits_of 1 (negsuc 1_999_998) ≡ 0xc974_23f8
unfolding bits_of size
lowest_from_numbers = refl

-- The model does round: past 2 ^ 24 a cast loses the last digit, and so does a midpoint whose sum is 2 ^ 24 + 1.
rounded_cast : to_bits binary32 (of_int binary32 (pos 16_777_217)) ≡ 0x4b80_0000
unfolding to_bits of_int
rounded_cast = refl

rounded_midpoint : to_bits binary32 (mul binary32 (add binary32 (fin false 1 (pos 23)) (fin false 8_388_609 (pos 0))) one_half) ≡ 0x4b00_0000
unfolding to_bits mul add
rounded_midpoint = refl
