-- Two mark words in one, a below place k and b from there on: each bit is a's or b's. By induction on k, as the laws of one word.
use mathlib.Core.Path.{◌≡◌, ap, ap₂, sym, ◌∙◌}
use Prim.Native.Nat.{ℕ, zero, suc, ◌+◌, ◌-◌, ◌*◌, ◌/◌, ◌%◌, ◌^◌, ◌≤◌, ◌<◌}
use native.Mathlib.Omega.{arith}
use native.Mathlib.Nat.{pow-succ', mul_assoc, mod-add-div, mod-lt}
use lib.Dec.{eqb}
use lib.Pow.{pow_pos}
use Rattle.marks.specs.Marks.{bit_of}
use Rattle.marks.proofs.Marks.{bit_zero, bit_suc}

twice : (b k : ℕ) → 2 ^ suc k * b ≡ 2 * (2 ^ k * b)
twice b k = rw (pow-succ' 2 k) (mul_assoc 2 (2 ^ k) b)

half_of : (a b k : ℕ) → (a + 2 ^ suc k * b) / 2 ≡ a / 2 + 2 ^ k * b
half_of a b k = rw (twice b k) (omega arith)

pub bit_low : (a b k i : ℕ) → i < k → bit_of (a + 2 ^ k * b) i ≡ bit_of a i
bit_low a b zero i l = absurd (omega arith)
bit_low a b (suc k) zero l =
    let e : (a + 2 ^ suc k * b) % 2 ≡ a % 2 = rw (twice b k) (omega arith) in
    bit_zero (a + 2 ^ suc k * b) ∙ ap (λ (x : ℕ). eqb x 1) e ∙ sym (bit_zero a)
bit_low a b (suc k) (suc i) l =
    bit_suc (a + 2 ^ suc k * b) i ∙ ap (λ (x : ℕ). bit_of x i) (half_of a b k) ∙ bit_low (a / 2) b k i (omega arith) ∙ sym (bit_suc a i)

pub bit_high : (a b k i : ℕ) → a < 2 ^ k → k ≤ i → bit_of (a + 2 ^ k * b) i ≡ bit_of b (i - k)
bit_high a b zero i l h =
    let e : a + 2 ^ 0 * b ≡ b = omega arith in
    let d : i ≡ i - 0 = omega arith in
    ap₂ bit_of e d
bit_high a b (suc k) zero l h = absurd (omega arith)
bit_high a b (suc k) (suc i) l h =
    let m = rw (pow-succ' 2 k) at l in
    let d : i - k ≡ suc i - suc k = omega arith in
    bit_suc (a + 2 ^ suc k * b) i ∙ ap (λ (x : ℕ). bit_of x i) (half_of a b k) ∙ bit_high (a / 2) b k i (omega arith) (omega arith) ∙ ap (bit_of b) d

-- a word in two parts
parts : (m k : ℕ) → m ≡ m % 2 ^ k + 2 ^ k * (m / 2 ^ k)
parts m k = sym (mod-add-div m (2 ^ k))

pub word_low : (m k i : ℕ) → i < k → bit_of m i ≡ bit_of (m % 2 ^ k) i
word_low m k i l = ap (λ (x : ℕ). bit_of x i) (parts m k) ∙ bit_low (m % 2 ^ k) (m / 2 ^ k) k i l

pub word_high : (m k i : ℕ) → k ≤ i → bit_of m i ≡ bit_of (m / 2 ^ k) (i - k)
word_high m k i h = ap (λ (x : ℕ). bit_of x i) (parts m k) ∙ bit_high (m % 2 ^ k) (m / 2 ^ k) k i (mod-lt m (pow_pos k)) h
