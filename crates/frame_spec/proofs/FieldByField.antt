-- A list of bytes is its fields, one after the other: two or four bytes read at a place are the two or four bytes that would be written for the number
-- read. So a frame is its common fields and its rest, and the bytes of a list are its entries.
use mathlib.Core.Path.{◌≡◌, refl, ap, sym, ◌∙◌}
use mathlib.Core.List.{List, [], ◌∷◌, ◌++◌, append_assoc, append-nil}
use Prim.Native.Nat.{ℕ, zero, suc, ◌+◌, ◌*◌, ◌≤◌, ◌<◌}
use native.Mathlib.Omega.{arith}
use native.Mathlib.Numerals.{add-one, add-two, add-three, add-four}
use lib.ListN.{length, get_or, drop, drop_of_length-le}
use lib.Seq.{drop-cons, get_or-drop}
use lib.IntN.{pos}
use Rattle.fields.specs.Bytes.{at2, at4, put2, put4, word_of}
use Rattle.entries.specs.Entries.{numbers}
use Rattle.fields.proofs.Bytes.{same2, same4, word_back}
use Rattle.frame_check.specs.Check.{length_field, sender_field, phase_field}
use Rattle.frame_spec.specs.Written.{header, entry_bytes}
use Rattle.frame_spec.specs.Proper.{AllBytes}
use Rattle.entries.proofs.Entries.{numbers_read}

module _ (s : List ℕ) (B : AllBytes s) where
  pub word_small : (i : ℕ) → at4 s i < 4294967296
  word_small i = omega (arith, B i, B (i + 1), B (i + 2), B (i + 3))

  two : (i : ℕ) → i + 2 ≤ length s → drop i s ≡ put2 (at2 s i) (drop (i + 2) s)
  two i h =
      rw (same2 (get_or s i 0) (get_or s (i + 1) 0) (drop (i + 2) s) (B i) (B (i + 1)), add-one, add-two)
      (drop-cons s i 0 (omega arith) ∙ ap (λ (l : List ℕ). get_or s i 0 ∷ l) (drop-cons s (suc i) 0 (omega arith)))

  pub four : (i : ℕ) → i + 4 ≤ length s → drop i s ≡ put4 (at4 s i) (drop (i + 4) s)
  four i h =
      rw (same4 (get_or s i 0) (get_or s (i + 1) 0) (get_or s (i + 2) 0) (get_or s (i + 3) 0) (drop (i + 4) s) (B i) (B (i + 1)) (B (i + 2)) (B (i + 3)), add-one, add-two, add-three, add-four)
      (drop-cons s i 0 (omega arith)
      ∙ ap (λ (l : List ℕ). get_or s i 0 ∷ l) (drop-cons s (suc i) 0 (omega arith)
      ∙ ap (λ (l : List ℕ). get_or s (suc i) 0 ∷ l) (drop-cons s (suc (suc i)) 0 (omega arith)
      ∙ ap (λ (l : List ℕ). get_or s (suc (suc i)) 0 ∷ l) (drop-cons s (suc (suc (suc i))) 0 (omega arith)))))

  -- the common fields, and the rest
  pub common : 7 ≤ length s → s ≡ header (length_field s) (at2 s 2) (sender_field s) (phase_field s) (drop 7 s)
  common h =
      two 0 (omega arith)
      ∙ ap (put2 (at2 s 0)) (two 2 (omega arith)
      ∙ ap (put2 (at2 s 2)) (drop-cons s 4 0 (omega arith)
      ∙ ap (λ (l : List ℕ). get_or s 4 0 ∷ l) (two 5 (omega arith))))

  -- the first j of n entries, and what is behind them
  entries_from : (n j : ℕ) → n ≤ 32 → j ≤ n → 4 * n ≤ length s → s ≡ entry_bytes (numbers s n) j ++ drop (4 * j) s
  unfolding entry_bytes
  entries_from n zero size l h = refl
  entries_from n (suc j) size l h =
      entries_from n j size (omega arith) h
      ∙ ap (λ (x : List ℕ). entry_bytes (numbers s n) j ++ x) (four (4 * j) (omega arith) ∙ next)
      ∙ sym (append_assoc (entry_bytes (numbers s n) j) (put4 (word_of (get_or (numbers s n) j (pos 0))) []) (drop (4 * suc j) s))
    where
      word : word_of (get_or (numbers s n) j (pos 0)) ≡ at4 s (4 * j)
      word = ap word_of (numbers_read s n j size (omega arith)) ∙ word_back (at4 s (4 * j)) (word_small (4 * j))

      next : put4 (at4 s (4 * j)) (drop (4 * j + 4) s) ≡ put4 (word_of (get_or (numbers s n) j (pos 0))) [] ++ drop (4 * suc j) s
      next = let e : 4 * suc j ≡ 4 * j + 4 = omega arith in rw (word, e)

  -- bytes that are n entries
  pub entries_whole : (n : ℕ) → n ≤ 32 → length s ≡ 4 * n → s ≡ entry_bytes (numbers s n) n
  entries_whole n size h =
      entries_from n n size (omega arith) (omega arith)
      ∙ ap (λ (x : List ℕ). entry_bytes (numbers s n) n ++ x) (drop_of_length-le s {i = 4 * n} (omega arith))
      ∙ append-nil (entry_bytes (numbers s n) n)

pub drop_bytes : (s : List ℕ) (n : ℕ) → AllBytes s → AllBytes (drop n s)
drop_bytes s n B i = rw (get_or-drop n s i 0) (B (n + i))
