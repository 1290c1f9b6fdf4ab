-- Counting by a loop: a test adds 1 or 0, a loop that adds g k in turn k has the sum of g, a count of n tests is at most n, and if the tests
-- from 32 on say no, the first 32 are enough.
use mathlib.Core.Path.{◌≡◌, refl, ap, sym, ◌∙◌}
use mathlib.Core.Bool.{Bool, true, false}
use mathlib.Core.List.{[], ◌∷◌}
use Prim.Native.Nat.{ℕ, suc, ◌+◌, ◌≤◌, min}
use native.Mathlib.Omega.{arith}
use native.Mathlib.Decide.{dec_le, le_ind}
use native.Mathlib.Numerals.{add-one}
use mir.Val.{bool_byte}
use Rattle.terms.specs.Counting.{sum, bit}
use Rattle.terms.proofs.Sums.{sums_le, sum_one, bit_le}

-- the number that the machine makes of a test
pub byte_bit : (b : Bool) → bool_byte b ≡ bit b
byte_bit true = refl
byte_bit false = refl

pub sum_next : (g : ℕ → ℕ) (k : ℕ) {c b : ℕ} → c ≡ sum k g → b ≡ g k → c + b ≡ sum (k + 1) g
unfolding sum
sum_next g k p q = rw (add-one k, p, q)

pub bits_le : (n : ℕ) (b : ℕ → Bool) → sum n (λ k. bit (b k)) ≤ n
bits_le n b = omega (arith, sum_one n, sums_le n ((λ k. bit (b k)) ∷ []) ((λ k. 1) ∷ []) (λ k l. omega (arith, bit_le (b k))))

-- what those from 32 on add nothing to
pub first_32 : {A : Type 0} (P : ℕ → A) → ((k : ℕ) → 32 ≤ k → P (suc k) ≡ P k) → (n : ℕ) → P (min n 32) ≡ P n
first_32 P h n = go (dec_le n 32)
  where
    go : Dec (n ≤ 32) → P (min n 32) ≡ P n
    go (yes l) = let e : min n 32 ≡ n = omega arith in ap P e
    go (no l) =
        let e : min n 32 ≡ 32 = omega arith in
        ap P e ∙ le_ind (λ k. P 32 ≡ P k) refl (λ k i q. q ∙ sym (h k i)) n (omega arith)
