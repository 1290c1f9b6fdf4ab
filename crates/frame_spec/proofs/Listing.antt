-- The entries of a list, one by one: what was read into the array, what a frame's bytes hold, and when they all may stand there. Each is defined by
-- one entry more, so each law goes by induction on the number of entries.
use mathlib.Core.Path.{◌≡◌, refl, ap, sym, ◌∙◌}
use mathlib.Core.Bool.{Bool, true, false}
use mathlib.Core.List.{List, [], ◌++◌}
use Prim.Native.Nat.{ℕ, zero, suc, ◌+◌, ◌*◌, ◌≤◌, ◌<◌}
use native.Mathlib.Omega.{arith}
use native.Mathlib.Nat.{add-zero}
use native.Mathlib.Decide.{dec_lt, ℕ_discrete}
use lib.ListN.{length, get_or, length-append, get_or-replicate, get_or-append, get_or-eq_default}
use lib.Seq.{get_or-append-add, get_or-set_other}
use lib.IntN.{ℤ, pos}
use Rattle.terms.proofs.Booleans.{and_both}
use Rattle.terms.specs.Positions.{is_position}
use Rattle.terms.specs.declared.Table.{Table}
use Rattle.terms.proofs.Whole.{eqZ→eq}
use Rattle.fields.specs.Bytes.{at4, signed_at, put4, word_of}
use Rattle.marks.specs.Marks.{bit_of}
use Rattle.entries.specs.Entries.{fits, entries_fit, zeros, numbers}
use Rattle.fields.proofs.Bytes.{back4, word_below}
use Rattle.frame_spec.specs.Written.{entry_bytes, list_frame}

-- ---- the array

zeros_zero : (i : ℕ) → get_or zeros i (pos 0) ≡ pos 0
unfolding zeros
zeros_zero i = go (dec_lt i 32)
  where
    go : Dec (i < 32) → get_or zeros i (pos 0) ≡ pos 0
    go (yes h) = get_or-replicate 32 i (pos 0) (pos 0) h
    go (no h) = get_or-eq_default zeros (pos 0) {n = i} (omega arith)

-- from n on, the numbers that were read are 0
pub numbers_none : (s : List ℕ) (n i : ℕ) → n ≤ i → get_or (numbers s n) i (pos 0) ≡ pos 0
unfolding numbers
numbers_none s zero i h = zeros_zero i
numbers_none s (suc n) i h =
    get_or-set_other (numbers s n) n i (signed_at s (4 * n)) (pos 0) (omega arith) ∙ numbers_none s n i (omega arith)

-- ---- which entries may stand there

-- an unmarked number that may stand in a list is 0
pub unmarked_zero : (v : ℤ) → fits false v ≡ true → v ≡ pos 0
unmarked_zero v h = eqZ→eq v (pos 0) (rw h tt)

-- a number that may stand in a list is a position, marked or not
pub fits_position : (b : Bool) (v : ℤ) → fits b v ≡ true → is_position v ≡ true
unfolding is_position
fits_position true v h = h
fits_position false v h = rw (unmarked_zero v h)

module _ (m : ℕ) (s : List ℕ) where
  pub each_fits : (n : ℕ) → entries_fit m s n ≡ true → (j : ℕ) → j < n → fits (bit_of m j) (signed_at s (4 * j)) ≡ true
  unfolding entries_fit
  each_fits zero h j l = absurd (omega arith)
  each_fits (suc n) h j l = go (ℕ_discrete j n) (λ k. each_fits n both.0 j k)
    where
      both : (entries_fit m s n ≡ true) × (fits (bit_of m n) (signed_at s (4 * n)) ≡ true)
      both = and_both (entries_fit m s n) (fits (bit_of m n) (signed_at s (4 * n))) h

      go : Dec (j ≡ n) → (j < n → fits (bit_of m j) (signed_at s (4 * j)) ≡ true) → fits (bit_of m j) (signed_at s (4 * j)) ≡ true
      go (yes e) before = rw e both.1
      go (no e) before = before (omega arith)

  pub all_fit : (n : ℕ) → ((j : ℕ) → j < n → fits (bit_of m j) (signed_at s (4 * j)) ≡ true) → entries_fit m s n ≡ true
  unfolding entries_fit
  all_fit zero h = refl
  all_fit (suc n) h = rw (all_fit n (λ j l. h j (omega arith)), h n (omega arith))

-- ---- the bytes of entries

pub bytes_length : (E : List ℤ) (n : ℕ) → length (entry_bytes E n) ≡ 4 * n
unfolding entry_bytes
bytes_length E zero = refl
bytes_length E (suc n) = length-append (entry_bytes E n) (put4 (word_of (get_or E n (pos 0))) []) ∙ omega (arith, bytes_length E n)

pub list_length : (n k p : ℕ) (t : Table) → length (list_frame n k p t) ≡ 12 + 4 * n
list_length n k p t = omega (arith, bytes_length t.entries n)

-- four bytes of the first of two lists, and of the second
at4_first : (xs ys : List ℕ) (i : ℕ) → i + 4 ≤ length xs → at4 (xs ++ ys) i ≡ at4 xs i
at4_first xs ys i h =
    rw (get_or-append xs ys 0 i (omega arith), get_or-append xs ys 0 (i + 1) (omega arith), get_or-append xs ys 0 (i + 2) (omega arith), get_or-append xs ys 0 (i + 3) (omega arith))

at4_second : (xs ys : List ℕ) (i : ℕ) → length xs ≡ i → at4 (xs ++ ys) i ≡ at4 ys 0
at4_second xs ys i e =
    rw (sym e, ap (λ (x : ℕ). get_or (xs ++ ys) x 0) (sym (add-zero (length xs))) ∙ get_or-append-add xs ys 0 0, get_or-append-add xs ys 1 0, get_or-append-add xs ys 2 0, get_or-append-add xs ys 3 0)

-- entry j of the bytes written
pub bytes_read : (E : List ℤ) (n j : ℕ) → j < n → is_position (get_or E j (pos 0)) ≡ true → at4 (entry_bytes E n) (4 * j) ≡ word_of (get_or E j (pos 0))
unfolding entry_bytes
bytes_read E zero j l h = absurd (omega arith)
bytes_read E (suc n) j l h = go (dec_lt j n) (λ k. bytes_read E n j k h)
  where
    go : Dec (j < n) → (j < n → at4 (entry_bytes E n) (4 * j) ≡ word_of (get_or E j (pos 0))) → at4 (entry_bytes E n ++ put4 (word_of (get_or E n (pos 0))) []) (4 * j) ≡ word_of (get_or E j (pos 0))
    go (yes k) before = at4_first (entry_bytes E n) _ (4 * j) (omega (arith, bytes_length E n)) ∙ before k
    go (no k) before =
        let e : n ≡ j = omega arith in
        rw e (at4_second (entry_bytes E j) _ (4 * j) (bytes_length E j) ∙ back4 (word_of (get_or E j (pos 0))) (word_below (get_or E j (pos 0)) h))
