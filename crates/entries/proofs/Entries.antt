-- Entries of a list. Whether a word may stand there is read off its bits, since a position's word is a small one, or one near 2^32. What is
-- said of the first j entries goes on to entry j by one step of its definition.
use mathlib.Core.Path.{◌≡◌, refl, sym, ◌∙◌}
use mathlib.Core.Bool.{Bool, true, ◌&&◌, and-true}
use mathlib.Core.List.{List}
use mathlib.Core.Logic.{◌≢◌}
use Prim.Native.Nat.{ℕ, zero, suc, ◌+◌, ◌-◌, ◌*◌, ◌≤◌, ◌<◌, min}
use native.Mathlib.Omega.{arith}
use native.Mathlib.Numerals.{add-one}
use native.Mathlib.Decide.{dec_lt, dec_le, ℕ_discrete}
use lib.Dec.{eqb, leb}
use lib.ListN.{length, get_or, set, length-set}
use lib.Seq.{set_out, get_or-set_same, get_or-set_other}
use lib.IntN.{ℤ, pos}
use borrow.Author.Tests.{le-leb, lt-leb, ne_eqb}
use Rattle.terms.specs.Positions.{is_position, eq_z}
use Rattle.fields.specs.Bytes.{at4, signed_of, signed_at}
use Rattle.marks.specs.Marks.{bit_of}
use Rattle.marks.proofs.Counts.{first_32}
use Rattle.std.specs.List.{list_all, range_with_len}
use Rattle.entries.proofs.Chains.{all_below}
use Rattle.entries.specs.Entries.{fits, entries_fit, zeros, numbers}
use Rattle.fields.proofs.Bytes.{signed_low, signed_high}

-- ---- words

-- the words of positions are those up to 1,000,000, and from 2^32 - 1,000,000 up
pub position_low : (x : ℕ) → x ≤ 1_000_000 → is_position (signed_of x) ≡ true
unfolding is_position
position_low x l = rw (signed_low x (omega arith)) (le-leb x 1_000_000 l)

pub position_high : (x : ℕ) → 1_000_000 < x → x < 4294967296 → is_position (signed_of x) ≡ leb 4293967296 x
unfolding is_position
position_high x l h = go (dec_lt x 2147483648) (dec_le 4293967296 x)
  where
    go : Dec (x < 2147483648) → Dec (4293967296 ≤ x) → is_position (signed_of x) ≡ leb 4293967296 x
    go (yes k) d = rw (signed_low x k) (lt-leb x 1_000_000 l ∙ sym (lt-leb 4293967296 x (omega arith)))
    go (no k) (yes d) =
        rw (signed_high x (omega arith), and-true) (le-leb (4294967295 - x) 999_999 (omega arith) ∙ sym (le-leb 4293967296 x d))
    go (no k) (no d) =
        rw (signed_high x (omega arith), and-true) (lt-leb (4294967295 - x) 999_999 (omega arith) ∙ sym (lt-leb 4293967296 x (omega arith)))

-- the word of 0 is 0
pub zero_word : (x : ℕ) → eq_z (signed_of x) (pos 0) ≡ eqb x 0
unfolding eq_z
zero_word x = go (dec_lt x 2147483648)
  where
    go : Dec (x < 2147483648) → eq_z (signed_of x) (pos 0) ≡ eqb x 0
    go (yes k) = rw (signed_low x k)
    go (no k) =
        let z : x ≢ 0 = omega arith in
        rw (signed_high x (omega arith)) (sym (ne_eqb x 0 z))

-- ---- entry by entry

module _ (m : ℕ) (s : List ℕ) where
  abbrev pub fits_at : ℕ → Bool
  fits_at j = fits (bit_of m j) (signed_of (at4 s (4 * j)))

  -- the first n fit if each of them does
  pub each_fit : (n : ℕ) → list_all fits_at (range_with_len 0 n) ≡ entries_fit m s n
  unfolding entries_fit
  each_fit = all_below fits_at (entries_fit m s) refl (λ j. refl)

  -- one more of a list without nulls: x is its word
  pub full_next : (j : ℕ) {fit good : Bool} {x : ℕ} → bit_of m j ≡ true → x ≡ at4 s (4 * j) → good ≡ is_position (signed_of x) → fit ≡ entries_fit m s j
      → (fit && good) ≡ entries_fit m s (j + 1)
  unfolding entries_fit
  full_next j marked word test before = rw (add-one j, marked, ← word, ← test, before)

pub numbers_next : (s : List ℕ) (j : ℕ) {out : List ℤ} {v : ℤ} → out ≡ numbers s j → v ≡ signed_at s (4 * j) → set out j v ≡ numbers s (j + 1)
unfolding numbers
numbers_next s j p q = rw (add-one j, p, q)

pub numbers_length : (s : List ℕ) (n : ℕ) → length (numbers s n) ≡ 32
unfolding numbers zeros
numbers_length s zero = refl
numbers_length s (suc n) = length-set (numbers s n) n (signed_at s (4 * n)) ∙ numbers_length s n

-- from entry 32 on nothing is stored
pub numbers_first_32 : (s : List ℕ) (n : ℕ) → numbers s (min n 32) ≡ numbers s n
unfolding numbers
numbers_first_32 s n = first_32 (numbers s) (λ k l. set_out (numbers s k) k (signed_at s (4 * k)) (rw numbers_length l)) n

-- below n, up to 32, the number that was read
pub numbers_read : (s : List ℕ) (n i : ℕ) → n ≤ 32 → i < n → get_or (numbers s n) i (pos 0) ≡ signed_at s (4 * i)
unfolding numbers
numbers_read s zero i h l = absurd (omega arith)
numbers_read s (suc n) i h l = go (ℕ_discrete i n) (numbers_read s n i (omega arith))
  where
    go : Dec (i ≡ n) → (i < n → get_or (numbers s n) i (pos 0) ≡ signed_at s (4 * i)) → get_or (set (numbers s n) n (signed_at s (4 * n))) i (pos 0) ≡ signed_at s (4 * i)
    go (yes e) before = rw e (get_or-set_same (numbers s n) n (signed_at s (4 * n)) (pos 0) (omega (arith, numbers_length s n)))
    go (no e) before = get_or-set_other (numbers s n) n i (signed_at s (4 * n)) (pos 0) e ∙ before (omega arith)
