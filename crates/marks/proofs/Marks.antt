-- Mark words: bit j of a number, a bit added, a bit set. Bit 0 is the remainder by 2, and bit j + 1 of m is bit j of m / 2; from these two each
-- law follows by induction on j.
use mathlib.Core.Path.{◌≡◌, refl, ap, sym, ◌∙◌}
use mathlib.Core.Bool.{Bool, true, false, cond, ◌&&◌}
use mathlib.Core.Logic.{◌≢◌}
use Prim.Native.Nat.{ℕ, zero, suc, ◌+◌, ◌*◌, ◌/◌, ◌%◌, ◌^◌, ◌≤◌, ◌<◌}
use native.Mathlib.Omega.{arith}
use native.Mathlib.Nat.{div-div-eq-div-mul, div-eq_of_lt, div-lt_iff_lt-mul, div-one, pow-succ', pow-le-pow_right, mod-eq_of_lt}
use native.Mathlib.Decide.{dec_lt}
use lib.Dec.{eqb, ltb}
use lib.Pow.{pow_pos}
use borrow.Author.Tests.{eq-eqb, ne_eqb, eqb-true, eqb-false, lt-ltb, le-ltb}
use Rattle.marks.specs.Marks.{bit_of, all_marked, with_mark}

pub bit_zero : (m : ℕ) → bit_of m 0 ≡ eqb (m % 2) 1
unfolding bit_of
bit_zero m = rw div-one

pub bit_suc : (m j : ℕ) → bit_of m (suc j) ≡ bit_of (m / 2) j
unfolding bit_of
bit_suc m j = rw (pow-succ', ← div-div-eq-div-mul)

pub bit_none : (j : ℕ) → bit_of 0 j ≡ false
bit_none zero = bit_zero 0
bit_none (suc j) = bit_suc 0 j ∙ bit_none j

even : (m : ℕ) → bit_of m 0 ≡ false → m % 2 ≡ 0
even m e = let h : m % 2 ≢ 1 = eqb-false (m % 2) 1 (sym (bit_zero m) ∙ e) in omega arith

-- a bit above the lowest, taken into the half
half_plus : (m j : ℕ) → (m + 2 ^ suc j) / 2 ≡ m / 2 + 2 ^ j
half_plus m j = rw pow-succ' (omega arith)

-- the bit that is set, if it was not
pub bit_same : (m j : ℕ) → bit_of m j ≡ false → bit_of (m + 2 ^ j) j ≡ true
bit_same m zero e = bit_zero (m + 1) ∙ eq-eqb ((m + 1) % 2) 1 (omega (arith, even m e))
bit_same m (suc j) e = rw (bit_suc, half_plus) (bit_same (m / 2) j (sym (bit_suc m j) ∙ e))

-- any other bit stays
pub bit_other : (m i j : ℕ) → i ≢ j → bit_of m j ≡ false → bit_of (m + 2 ^ j) i ≡ bit_of m i
bit_other m zero zero h e = absurd (h refl)
bit_other m (suc i) zero h e =
    let k : (m + 1) / 2 ≡ m / 2 = omega (arith, even m e) in
    bit_suc (m + 1) i ∙ ap (λ (x : ℕ). bit_of x i) k ∙ sym (bit_suc m i)
bit_other m zero (suc j) h e =
    let k : (m + 2 ^ suc j) % 2 ≡ m % 2 = rw pow-succ' (omega arith) in
    bit_zero (m + 2 ^ suc j) ∙ ap (λ (x : ℕ). eqb x 1) k ∙ sym (bit_zero m)
bit_other m (suc i) (suc j) h e =
    rw (bit_suc (m + 2 ^ suc j), half_plus, bit_suc m) (bit_other (m / 2) i j (λ q. h (ap suc q)) (sym (bit_suc m j) ∙ e))

-- a number below 2 ^ n has no bit at n or above
pub bit_above : (m n j : ℕ) → m < 2 ^ n → n ≤ j → bit_of m j ≡ false
bit_above m zero j l h = let e : m ≡ 0 = omega arith in rw e (bit_none j)
bit_above m (suc n) zero l h = absurd (omega arith)
bit_above m (suc n) (suc j) l h = let k = rw pow-succ' at l in rw bit_suc (bit_above (m / 2) n j (omega arith) (omega arith))

-- a bit below n keeps it below 2 ^ n
pub bit_below : (m n j : ℕ) → m < 2 ^ n → j < n → bit_of m j ≡ false → m + 2 ^ j < 2 ^ n
bit_below m zero j l h e = absurd (omega arith)
bit_below m (suc n) zero l h e = let k = rw pow-succ' at l in rw pow-succ' (omega (arith, even m e))
bit_below m (suc n) (suc j) l h e =
    let k = rw pow-succ' at l in
    rw (pow-succ' 2 n, pow-succ' 2 j) (omega (arith, bit_below (m / 2) n j (omega arith) (omega arith) (sym (bit_suc m j) ∙ e)))

-- a number one below 2 ^ n has each bit below n
pub bit_all : (m n j : ℕ) → m + 1 ≡ 2 ^ n → j < n → bit_of m j ≡ true
bit_all m zero j e l = absurd (omega arith)
bit_all m (suc n) zero e l = let k = rw pow-succ' at e in bit_zero m ∙ eq-eqb (m % 2) 1 (omega arith)
bit_all m (suc n) (suc j) e l = let k = rw pow-succ' at e in rw bit_suc (bit_all (m / 2) n j (omega arith) (omega arith))

pub all_bits : (m n j : ℕ) → all_marked m n ≡ true → j < n → bit_of m j ≡ true
unfolding all_marked
all_bits m n j e l = bit_all m n j (eqb-true (m + 1) (2 ^ n) e) l

-- nothing is left of a shift by n exactly if the number is below 2 ^ n
pub shift_none : (m n : ℕ) → eqb (m / 2 ^ n) 0 ≡ ltb m (2 ^ n)
shift_none m n = go (dec_lt m (2 ^ n))
  where
    go : Dec (m < 2 ^ n) → eqb (m / 2 ^ n) 0 ≡ ltb m (2 ^ n)
    go (yes l) = eq-eqb (m / 2 ^ n) 0 (div-eq_of_lt l) ∙ sym (lt-ltb m (2 ^ n) l)
    go (no l) =
        ne_eqb (m / 2 ^ n) 0 (λ q. let k : m < 1 * 2 ^ n = (div-lt_iff_lt-mul (pow_pos n)).0 (omega arith) in l (omega arith))
        ∙ sym (le-ltb m (2 ^ n) (omega arith))

-- ---- a bit set, whether it was or not

pub with_past : (m k : ℕ) → 32 ≤ k → with_mark m k ≡ m
unfolding with_mark
with_past m k h = rw (le-ltb k 32 h) refl

pub with_new : (m k : ℕ) → k < 32 → bit_of m k ≡ false → with_mark m k ≡ m + 2 ^ k
unfolding with_mark
with_new m k l e = rw (lt-ltb k 32 l, e) refl

pub with_old : (m k : ℕ) → bit_of m k ≡ true → with_mark m k ≡ m
unfolding with_mark
with_old m k e = rw e (go (ltb k 32))
  where
    go : (b : Bool) → cond (b && false) (m + 2 ^ k) m ≡ m
    go true = refl
    go false = refl

module _ (m k : ℕ) (l : k < 32) where
  pub with_same : bit_of (with_mark m k) k ≡ true
  with_same = go (bit_of m k) refl
    where
      go : (b : Bool) → bit_of m k ≡ b → bit_of (with_mark m k) k ≡ true
      go true e = rw (with_old m k e) e
      go false e = rw (with_new m k l e) (bit_same m k e)

  pub with_other : (i : ℕ) → i ≢ k → bit_of (with_mark m k) i ≡ bit_of m i
  with_other i h = go (bit_of m k) refl
    where
      go : (b : Bool) → bit_of m k ≡ b → bit_of (with_mark m k) i ≡ bit_of m i
      go true e = rw (with_old m k e) refl
      go false e = rw (with_new m k l e) (bit_other m i k h e)

  pub with_below : (n : ℕ) → m < 2 ^ n → k < n → with_mark m k < 2 ^ n
  with_below n h q = go (bit_of m k) refl
    where
      go : (b : Bool) → bit_of m k ≡ b → with_mark m k < 2 ^ n
      go true e = rw (with_old m k e) h
      go false e = rw (with_new m k l e) (bit_below m n k h q e)

-- the machine's mark of bit k
pub mark_is : (k : ℕ) → k < 32 → 1 * 2 ^ k % 4294967296 ≡ 2 ^ k
mark_is k l =
    let h : 1 * 2 ^ k < 4294967296 = omega (arith, pow-le-pow_right {n = 2} (omega arith) {i = k} {j = 31} (omega arith)) in
    mod-eq_of_lt h ∙ omega arith

-- and of a mark one place further, in 64 bits
pub power_is : (k : ℕ) → k ≤ 32 → 1 * 2 ^ k % 18446744073709551616 ≡ 2 ^ k
power_is k l =
    let h : 1 * 2 ^ k < 18446744073709551616 = omega (arith, pow-le-pow_right {n = 2} (omega arith) {i = k} {j = 32} (omega arith)) in
    mod-eq_of_lt h ∙ omega arith
