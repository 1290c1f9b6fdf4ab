-- The bits of `exact k z` are those that `bits_of` makes from whole numbers.
use mathlib.Core.Path.{◌≡◌, refl, sym, ap, ◌∙◌, subst}
use mathlib.Core.Bool.{Bool, true, false, cond}
use Prim.Native.Nat.{ℕ, zero, suc, ◌+◌, ◌-◌, ◌*◌, ◌/◌, ◌^◌, ◌≤◌, ◌<◌}
use native.Mathlib.Nat.{lt_of_not-le, not-le_of_lt, lt_of_lt_of_le, mul-le-mul_right, mul_assoc, zero-add, zero-lt-suc}
use native.Mathlib.Omega.{arith}
use lib.IntN.{ℤ, pos, negsuc, nat_abs}
use lib.Pow.{pow-add, pow_pos, pow_mono, shl_lt, shl-shr}
use lib.Ieee.{binary32, size, to_bits}
use lib.Ieee.Digits.{size-lt, size-le, size_reaches}
use Rattle.reading.specs.Exact.{exact}
use Rattle.reading.specs.Bits.{fields_of, bits_of}
use Rattle.reading.proofs.OneFloat.{bits_at, bits_of_value}
use Rattle.reading.specs.Exactness.{RightFloat}
use Rattle.reading.proofs.Exactness.{exact_is, exact_holds, exact_only}

-- ---- how many binary digits

module _ (n : ℕ) (p : 0 < n) where
  size_pos : 0 < size n
  size_pos = lt_of_not-le (λ (h : size n ≤ 0). not-le_of_lt (lt_of_lt_of_le (size-lt n) (pow_mono h)) p)

  -- n has its leading digit at size n - 1
  lead : 2 ^ (size n - 1) ≤ n
  lead = let h : size n - 1 < size n = omega (arith, size_pos) in size_reaches n (size n - 1) h

  -- j zeros at the end are j digits more
  size_shift : (j : ℕ) → size (n * 2 ^ j) ≡ size n + j
  size_shift j =
      let z = size n - 1 in
      let reach : 2 ^ (z + j) ≤ n * 2 ^ j = subst (λ (x : ℕ). x ≤ n * 2 ^ j) (sym (pow-add 2 z j)) (mul-le-mul_right (2 ^ j) lead) in
      let more : z + j < size (n * 2 ^ j) = lt_of_not-le (λ (h : size (n * 2 ^ j) ≤ z + j). not-le_of_lt (lt_of_lt_of_le (size-lt (n * 2 ^ j)) (pow_mono h)) reach) in
      let most : size (n * 2 ^ j) ≤ size n + j = size-le (n * 2 ^ j) (size n + j) (shl_lt (size n) j (size-lt n)) in
      omega (arith, size_pos)

-- ---- the two fields

module _ (n k : ℕ) (p : 0 < n) (h : n < 2 ^ 24) (l : k ≤ 1) where
  few : size n ≤ 24
  few = size-le n 24 h

  in_units : n * 2 ^ 149 / 2 ^ k ≡ n * 2 ^ (149 - k)
  in_units =
      let e : 149 - k + k ≡ 149 = omega arith in
      ap (λ (x : ℕ). n * 2 ^ x / 2 ^ k) (sym e)
      ∙ ap (λ (x : ℕ). n * x / 2 ^ k) (pow-add 2 (149 - k) k)
      ∙ ap (λ (x : ℕ). x / 2 ^ k) (sym (mul_assoc n (2 ^ (149 - k)) (2 ^ k)))
      ∙ shl-shr (n * 2 ^ (149 - k)) k

  dropped : size (n * 2 ^ (149 - k)) - 24 ≡ size n + 125 - k
  dropped = let e : size (n * 2 ^ (149 - k)) ≡ size n + (149 - k) = size_shift n p (149 - k) in omega arith

  kept : n * 2 ^ (149 - k) / 2 ^ (size n + 125 - k) ≡ n * 2 ^ (24 - size n)
  kept =
      let f = size n + 125 - k in
      let g = 24 - size n in
      let e : 149 - k ≡ g + f = omega (arith, few, size_pos n p) in
      ap (λ (x : ℕ). n * 2 ^ x / 2 ^ f) e
      ∙ ap (λ (x : ℕ). n * x / 2 ^ f) (pow-add 2 g f)
      ∙ ap (λ (x : ℕ). x / 2 ^ f) (sym (mul_assoc n (2 ^ g) (2 ^ f)))
      ∙ shl-shr (n * 2 ^ g) f

  lead_there : 2 ^ 23 ≤ n * 2 ^ (24 - size n)
  lead_there =
      let e : size n - 1 + (24 - size n) ≡ 23 = omega (arith, few, size_pos n p) in
      subst (λ (x : ℕ). x ≤ n * 2 ^ (24 - size n)) (sym (pow-add 2 (size n - 1) (24 - size n)) ∙ ap (λ (x : ℕ). 2 ^ x) e)
      (mul-le-mul_right (2 ^ (24 - size n)) (lead n p))

  carry : (c f m : ℕ) → 2 ^ 23 ≤ m → c + f * 2 ^ 23 + m ≡ c + (suc f * 2 ^ 23 + (m - 2 ^ 23))
  carry c f m q = omega arith

  two_fields : (s : Bool) → bits_at binary32 s (n * 2 ^ 149 / 2 ^ k) ≡ cond s (2 ^ 31) 0 + ((size n + 126 - k) * 2 ^ 23 + (n * 2 ^ (24 - size n) - 2 ^ 23))
  two_fields s =
      let c = cond s (2 ^ 31) 0 in
      let f = size n + 125 - k in
      let m = n * 2 ^ (24 - size n) in
      let e : suc f ≡ size n + 126 - k = omega (arith, size_pos n p) in
      ap (bits_at binary32 s) in_units
      ∙ ap (λ (x : ℕ). c + x * 2 ^ 23 + n * 2 ^ (149 - k) / 2 ^ x) dropped
      ∙ ap (λ (x : ℕ). c + f * 2 ^ 23 + x) kept
      ∙ carry c f m lead_there
      ∙ ap (λ (x : ℕ). c + (x * 2 ^ 23 + (m - 2 ^ 23))) e

pub bits_of_exact : (k : ℕ) (z : ℤ) → k ≤ 1 → nat_abs z < 2 ^ 24 → to_bits binary32 (exact k z) ≡ bits_of k z
unfolding exact to_bits bits_of
bits_of_exact k (pos zero) l h = refl
bits_of_exact k (pos (suc n)) l h =
    bits_of_value binary32 (exact k (pos (suc n))) false (suc n) (2 ^ k) (pow_pos k) (exact_is k (pos (suc n)))
    ∙ two_fields (suc n) k (zero-lt-suc n) h l false
    ∙ zero-add (fields_of k (suc n))
bits_of_exact k (negsuc n) l h =
    bits_of_value binary32 (exact k (negsuc n)) true (suc n) (2 ^ k) (pow_pos k) (exact_is k (negsuc n)) ∙ two_fields (suc n) k (zero-lt-suc n) h l true

pub right_float : RightFloat
right_float = record { is = exact_is; holds = exact_holds; only = exact_only; bits = bits_of_exact }
