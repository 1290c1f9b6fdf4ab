-- Rows of a table, and the phase ends that they hold. A row is written behind the rows that are there, so that these stay what they were.
use Rattle.std.specs.Prelude.{Some}
use mathlib.Core.Path.{◌≡◌, refl, ap, sym, ◌∙◌}
use mathlib.Core.Bool.{Bool, true, false, not, cond, ◌&&◌, ◌||◌, true≢false}
use mathlib.Core.List.{List, [], ◌∷◌, ◌++◌, append_assoc}
use Prim.Native.Nat.{ℕ, zero, suc, ◌+◌, ◌-◌, ◌*◌, ◌≤◌, ◌<◌}
use native.Mathlib.Omega.{arith}
use native.Mathlib.Decide.{dec_lt}
use lib.ListN.{length, get_or, take, drop, length-append, get_or-append}
use lib.Seq.{take-add, take-take, take_at, drop_at, take-length, length-take-le, get_or_at, paste}
use lib.IntN.{ℤ, pos}
use Rattle.terms.specs.declared.Family.{Family}
use Rattle.terms.specs.Counting.{Each}
use Rattle.ring_spec.specs.Rounds.{Round, PhaseEnd, receivers, is_receiver, is_out, all_listeners, ends_after}
use Rattle.ring_spec.proofs.Receivers.{first_out_as}
use Rattle.run_whole.specs.Buffers.{row}
use Rattle.run_whole.specs.Whole.{end_number, is_sound, HoldsEnd}
use Rattle.run_whole.specs.Inner.{sound_number, sound_row, Rows}

-- ---- who is sound

-- b: the receiver is there; c: it is marked
out_unsound : (b c : Bool) → (b && not c) ≡ true → (not b || c) ≡ false
out_unsound true true s = absurd (true≢false (sym s))
out_unsound true false s = refl
out_unsound false c s = absurd (true≢false (sym s))

sound_not_out : (b c : Bool) → (b && not c) ≡ not (not b || c)
sound_not_out true c = refl
sound_not_out false c = refl

-- at the start the same however many listeners there are
first_sound_lem : (n m k i : ℕ) → i < receivers → is_sound n k all_listeners i ≡ is_sound n m all_listeners i
first_sound_lem n m k i l =
    sound_not_out (is_receiver n k i) _ ∙ ap not (first_out_as n k m i l) ∙ sym (sound_not_out (is_receiver n m i) _)

-- ---- a row as it is made

module _ (n m word : ℕ) (positions : List ℤ) where
  pub row_long : (k : ℕ) → length (sound_row n m word positions k) ≡ k
  unfolding sound_row
  row_long zero = refl
  row_long (suc k) = length-append (sound_row n m word positions k) _ ∙ omega (arith, row_long k)

  pub row_at : (k i : ℕ) → i < k → get_or (sound_row n m word positions k) i (pos 0) ≡ sound_number n m word positions i
  unfolding sound_row
  row_at zero i l = absurd (omega arith)
  row_at (suc k) i l = go (dec_lt i k) (row_at k i)
    where
      go : Dec (i < k) → (i < k → get_or (sound_row n m word positions k) i (pos 0) ≡ sound_number n m word positions i)
          → get_or (sound_row n m word positions k ++ (sound_number n m word positions k ∷ [])) i (pos 0) ≡ sound_number n m word positions i
      go (yes h) before = get_or-append (sound_row n m word positions k) (sound_number n m word positions k ∷ []) (pos 0) i (omega (arith, row_long k)) ∙ before h
      go (no h) before =
          let e : k ≡ i = omega arith in
          get_or_at (sound_row n m word positions k) _ [] (pos 0) i (row_long k ∙ e) ∙ ap (sound_number n m word positions) e

  -- it holds a phase end whose sound receivers hold these positions
  pub row_holds : (x : PhaseEnd) → word ≡ x.struck
      → Each receivers (λ i. is_out n m x.struck i ≡ false → (x.heads i).seat.position ≡ Some (get_or positions i (pos 0)))
      → HoldsEnd n m x (sound_row n m word positions 48) word
  row_holds x e held =
      record {
        marks = e;
        held = λ i l s. held i l (out_unsound (is_receiver n m i) _ s) ∙ ap Some (sym (number i l s));
        others = λ i l s. number i l s;
      }
    where
      number : (i : ℕ) → i < receivers → {b : Bool} → is_sound n m x.struck i ≡ b
          → get_or (sound_row n m word positions 48) i (pos 0) ≡ cond b (get_or positions i (pos 0)) (pos 0)
      number i l s = row_at 48 i l ∙ ap (λ (b : Bool). cond b (get_or positions i (pos 0)) (pos 0)) (ap (λ (w : ℕ). is_sound n m w i) e ∙ s)

-- ---- a row that is written

-- two lists with the same first numbers have the same parts there
same_part : {A : Type 0} {m : ℕ} (a b : ℕ) (l l' : List A) → a + b ≤ m → take m l ≡ take m l' → take b (drop a l) ≡ take b (drop a l')
same_part {A = A} {m} a b l l' h e =
    let f : (k : ℕ) → k ≤ m → take k l ≡ take k l' = λ k h. sym (take-take k m l h) ∙ ap (take k) e ∙ take-take k m l' h in
    let both : take a l ++ take b (drop a l) ≡ take a l ++ take b (drop a l') =
    sym (take-add a b l) ∙ f (a + b) h ∙ take-add a b l' ∙ ap (λ (x : List A). x ++ take b (drop a l')) (sym (f a (omega arith))) in
    sym (drop_at (take a l) _ (length (take a l)) refl) ∙ ap (drop (length (take a l))) both ∙ drop_at (take a l) _ (length (take a l)) refl

module _ (rows : List ℤ) (c : ℕ) (s : List ℤ) (room : 48 * c + 48 ≤ length rows) (long : length s ≡ 48) where
  abbrev written : List ℤ
  written = paste rows (48 * c) s 48

  first_same : take (48 * c) written ≡ take (48 * c) rows
  first_same =
      ap (take (48 * c)) (append_assoc (take (48 * c) rows) (take 48 s) _)
      ∙ take_at (take (48 * c) rows) _ (48 * c) (length-take-le (48 * c) rows (omega arith))

  -- the rows before
  pub row_before : (e : ℕ) → e < c → row e written ≡ row e rows
  row_before e l = same_part {m = 48 * c} (48 * e) 48 written rows (omega arith) first_same

  -- the row itself
  pub row_new : row c written ≡ s
  row_new =
      ap (λ (l : List ℤ). take 48 (drop (48 * c) l)) (append_assoc (take (48 * c) rows) (take 48 s) _)
      ∙ ap (take 48) (drop_at (take (48 * c) rows) _ (48 * c) (length-take-le (48 * c) rows (omega arith)))
      ∙ take_at (take 48 s) _ 48 (length-take-le 48 s (omega arith))
      ∙ ap (λ (k : ℕ). take k s) (sym long) ∙ take-length s

-- ---- the rows of several ends

-- rows and words that are the same for as many ends hold the same
pub rows_same : (n m : ℕ) (es : List PhaseEnd) (rows rows' : List ℤ) (words words' : List ℕ)
    → ((e : ℕ) → e < length es → row e rows' ≡ row e rows) → ((e : ℕ) → e < length es → get_or words' e 0 ≡ get_or words e 0)
    → Rows n m es rows words → Rows n m es rows' words'
unfolding Rows
rows_same n m [] rows rows' words words' r w R = tt
rows_same n m (x ∷ es) rows rows' words words' r w R = (
  rw (r (length es) (omega arith), w (length es) (omega arith)) R.0,
  rows_same n m es rows rows' words words' (λ e l. r e (omega arith)) (λ e l. w e (omega arith)) R.1,
)

-- each of them
pub rows_at : (n m : ℕ) (es : List PhaseEnd) (rows : List ℤ) (words : List ℕ) → Rows n m es rows words
    → (e : ℕ) → e < length es → HoldsEnd n m (end_number es e) (row e rows) (get_or words e 0)
unfolding Rows
rows_at n m [] rows words R e l = absurd (omega arith)
rows_at n m (x ∷ es) rows words R e l = go (dec_lt e (length es)) (rows_at n m es rows words R.1 e)
  where
    go : Dec (e < length es) → (e < length es → HoldsEnd n m (end_number es e) (row e rows) (get_or words e 0))
        → HoldsEnd n m (end_number (x ∷ es) e) (row e rows) (get_or words e 0)
    go (yes h) before =
        let k : suc (length es) - 1 - e ≡ suc (length es - 1 - e) = omega arith in
        rw k (before h)
    go (no h) before =
        let k : suc (length es) - 1 - e ≡ 0 = omega arith in
        let same : length es ≡ e = omega arith in
        rw k (rw same at R.0)

-- the start's row, with any other number of listeners
pub rows_recount : (K : Family) (n m k f : ℕ) (v : ℕ → ℤ) (ws : List Round) (rows : List ℤ) (words : List ℕ) → length ws ≡ 0
    → Rows n m (ends_after K n f v ws) rows words → Rows n k (ends_after K n f v ws) rows words
unfolding Rows ends_after
rows_recount K n m k f v [] rows words z (H, R) = (
  record {
    marks = H.marks;
    held = λ i l s. H.held i l (sym (first_sound_lem n m k i l) ∙ s);
    others = λ i l s. H.others i l (sym (first_sound_lem n m k i l) ∙ s);
  },
  tt,
)
rows_recount K n m k f v (w ∷ ws) rows words z R = absurd (omega arith)
