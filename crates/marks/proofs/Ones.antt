-- Marks counted at once: if none stands at n or above, the set bits of a mark word are the marks among its first n. Those of a longer word are in its rest by 2 ^ n.
use mathlib.Core.Path.{◌≡◌, refl, ap, sym, ◌∙◌}
use mathlib.Core.Bool.{Bool, true, false}
use Prim.Native.Nat.{ℕ, zero, suc, ◌+◌, ◌/◌, ◌%◌, ◌^◌, ◌<◌}
use native.Mathlib.Omega.{arith}
use native.Mathlib.Nat.{pow-succ', mod-lt}
use lib.Count.{ones, ones_step, ones-le}
use lib.Dec.{eqb}
use lib.Pow.{pow_pos}
use borrow.Author.Tests.{eqb-true, eqb-false}
use Rattle.marks.specs.Marks.{bit_of, count_below}
use Rattle.marks.proofs.Marks.{bit_zero, bit_suc}
use Rattle.marks.proofs.Words.{word_low}
use Rattle.terms.specs.Counting.{sum, bit}
use Rattle.terms.proofs.Sums.{sum_same}

-- a sum from its other end
sum_first : (n : ℕ) (g : ℕ → ℕ) → sum (suc n) g ≡ g 0 + sum n (λ k. g (suc k))
unfolding sum
sum_first zero g = omega arith
sum_first (suc n) g = omega (arith, sum_first n g)

low_bit : (m : ℕ) → m % 2 ≡ bit (bit_of m 0)
low_bit m = go (eqb (m % 2) 1) refl ∙ ap bit (sym (bit_zero m))
  where
    go : (b : Bool) → eqb (m % 2) 1 ≡ b → m % 2 ≡ bit b
    go true e = eqb-true (m % 2) 1 e
    go false e = let h = eqb-false (m % 2) 1 e in omega arith

pub ones_marked : (n m : ℕ) → m < 2 ^ n → ones m ≡ sum n (λ k. bit (bit_of m k))
unfolding sum
ones_marked zero m l = omega (arith, ones-le 0 m l)
ones_marked (suc n) m l =
    let h = rw pow-succ' at l in
    let rest : ones (m / 2) ≡ sum n (λ k. bit (bit_of m (suc k))) =
    ones_marked n (m / 2) (omega arith) ∙ sum_same n _ _ (λ k b. ap bit (sym (bit_suc m k))) in
    omega (arith, ones_step m, low_bit m, rest, sum_first n (λ k. bit (bit_of m k)))

pub ones_rest : (n m : ℕ) → ones (m % 2 ^ n) ≡ count_below m n
ones_rest n m = ones_marked n (m % 2 ^ n) (mod-lt m (pow_pos n)) ∙ sum_same n _ _ (λ k l. ap bit (sym (word_low m n k l)))
