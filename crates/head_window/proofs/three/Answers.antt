-- A bit is at most 1, so each product and sum fits a byte.
use native.Mathlib.Omega.{arith}
use Rattle.terms.proofs.Sums.{bit_le}
use Rattle.marks.proofs.Counts.{byte_bit}
use Rattle.head_window.proofs.three.Goals as goal

pub overflow_mul-result : goal.overflow_mul-result
overflow_mul-result c = let b = c.args.b in record { fits = omega (arith, byte_bit b, bit_le b) }

pub overflow_add-result : goal.overflow_add-result
overflow_add-result c = let a = c.args in record { fits = omega (arith, byte_bit a.a, bit_le a.a, byte_bit a.b, bit_le a.b) }

pub overflow_mul-result-2 : goal.overflow_mul-result-2
overflow_mul-result-2 c = let b = c.args.c in record { fits = omega (arith, byte_bit b, bit_le b) }

pub overflow_add-result-2 : goal.overflow_add-result-2
overflow_add-result-2 c =
    let a = c.args in
    record { fits = omega (arith, byte_bit a.a, bit_le a.a, byte_bit a.b, bit_le a.b, byte_bit a.c, bit_le a.c) }
