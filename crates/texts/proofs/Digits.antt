-- Digits in a base. Decimal and hexadecimal digits are those of `spelled` in base 10 and 16: a digit below 10 has the same byte in both. A number is
-- counted as it is divided: one digit for each division that leaves something. The last k hexadecimal digits are those of the remainder by 16 to the
-- power k.
use mathlib.Core.Path.{◌≡◌, refl}
use mathlib.Core.Bool.{Bool, true, false, cond}
use mathlib.Core.List.{[], ◌∷◌, ◌++◌}
use Prim.Native.Nat.{ℕ, zero, suc, ◌+◌, ◌*◌, ◌/◌, ◌%◌, ◌^◌, ◌≤◌, ◌<◌}
use native.Mathlib.Omega.{arith}
use native.Mathlib.Nat.{pow-succ', mul_comm}
use lib.Dec.{ltb}
use lib.Arith.{mod-mul}
use lib.ListN.{length, length-append}
use borrow.Author.Tests.{lt-ltb, le-ltb}
use Rattle.texts.specs.Numbers.{digits, size, decimal, hex, spelled}

pub size_small : (k x : ℕ) → x < 10 → size k x ≡ 1
unfolding size
size_small zero x h = refl
size_small (suc k) x h = rw (lt-ltb x 10 h)

pub size_more : (k x : ℕ) → 10 ≤ x → size (suc k) x ≡ suc (size k (x / 10))
unfolding size
size_more k x h = rw (le-ltb x 10 h)

spelled_digits : (k x : ℕ) → spelled 10 k x ≡ digits k x
unfolding spelled digits
spelled_digits zero x = refl
spelled_digits (suc k) x =
    let h : x % 10 < 10 = omega arith in
    rw (spelled_digits k (x / 10), lt-ltb (x % 10) 10 h)

pub spelled_decimal : {k : ℕ} (x : ℕ) → k ≡ size 9 x → spelled 10 k x ≡ decimal x
unfolding decimal
spelled_decimal x e = rw e (spelled_digits (size 9 x) x)

pub size_most : (k x : ℕ) → size k x ≤ suc k
unfolding size
size_most zero x = omega arith
size_most (suc k) x = go (ltb x 10) (size_most k (x / 10))
  where
    go : (b : Bool) {m : ℕ} → m ≤ suc k → cond b 1 (suc m) ≤ suc (suc k)
    go true l = omega arith
    go false l = omega arith

pub spelled_length : (b k x : ℕ) → length (spelled b k x) ≡ k
unfolding spelled
spelled_length b zero x = refl
spelled_length b (suc k) x = rw (length-append, spelled_length b k (x / b)) (omega arith)

-- of ten digits at most
pub decimal_short : (x after : ℕ) → length (decimal x ++ (after ∷ [])) ≤ 11
decimal_short x after =
    rw (← spelled_decimal x refl, length-append, spelled_length 10 (size 9 x) x) (omega (arith, size_most 9 x))

pub spelled_hex : (k x : ℕ) → spelled 16 k x ≡ hex k x
unfolding spelled hex
spelled_hex zero x = refl
spelled_hex (suc k) x = rw (spelled_hex k (x / 16))

power_pos : (k : ℕ) → 0 < 16 ^ k
power_pos zero = omega arith
power_pos (suc k) = rw (pow-succ' 16 k) (omega (arith, power_pos k))

last_digit : (y d : ℕ) → d < 16 → ((y * 16 + d) / 16 ≡ y) × ((y * 16 + d) % 16 ≡ d)
last_digit y d l = (omega arith, omega arith)

pub hex_low : (k x : ℕ) → hex k (x % 16 ^ k) ≡ hex k x
unfolding hex
hex_low zero x = refl
hex_low (suc k) x =
    let e : x % 16 ^ suc k ≡ (x / 16 % 16 ^ k) * 16 + x % 16 = rw (pow-succ' 16 k, mul_comm 16 (16 ^ k)) (mod-mul x (power_pos k) (omega arith)) in
    let d = last_digit (x / 16 % 16 ^ k) (x % 16) (omega arith) in
    rw (e, d.0, d.1, hex_low k (x / 16))

pub hex_length : (k x after : ℕ) → length (hex k x ++ (after ∷ [])) ≡ suc k
hex_length k x after = rw (← spelled_hex k x, length-append, spelled_length 16 k x) (omega arith)
