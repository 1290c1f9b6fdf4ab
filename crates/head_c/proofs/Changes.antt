-- What each meaning of a frame changes in a block, read as a record: just what hearing it changes of the record. All other words are as they were.
use Rattle.std.specs.Prelude.{None, Some}
use mathlib.Core.Path.{◌≡◌, ap, sym, ◌∙◌}
use mathlib.Core.Logic.{◌≢◌}
use mathlib.Core.Bool.{cond}
use mathlib.Core.List.{List}
use Prim.Native.Nat.{ℕ, ◌+◌, ◌*◌, ◌≤◌, ◌<◌}
use native.Mathlib.Omega.{arith}
use native.Mathlib.Decide.{dec_lt}
use lib.ListN.{length, get_or, set, length-set}
use lib.Seq.{get_or-set_same, get_or-set_other, paste}
use lib.IntN.{ℤ}
use Rattle.terms.specs.Entry.{Entry}
use Rattle.terms.specs.declared.Table.{Table}
use Rattle.fields.specs.Bytes.{signed_of, word_of}
use Rattle.marks.specs.Marks.{bit_of, with_mark}
use Rattle.marks.proofs.Marks.{with_same, with_other}
use Rattle.entries.specs.Entries.{zeros}
use Rattle.frame_spec.specs.Said.{collected, listed, confessed}
use Rattle.head_spec.specs.declared.Row.{Row}
use Rattle.head_spec.specs.Calls.{taken}
use Rattle.head_c.specs.Blocks.{IsBlock, up_to, numbers_at, list_at, seat_of, head_of, words_of, marked}
use Rattle.head_c.proofs.Copying.{up_to_same, up_to_set, copied_before, copied_there, copied_behind}
use Rattle.head_c.proofs.Putting.{words_long, word_at}
use Rattle.head_c.proofs.Blocks.{Fits32, signed_back, FitNumbers, numbers_back}

-- ---- parts of a block that are as they were

module _ (w w' : List ℕ) where
  abbrev Same : ℕ → Type 0
  Same i = get_or w' i 0 ≡ get_or w i 0

  seat_same : ((i : ℕ) → i < 16 → Same i) → seat_of w' ≡ seat_of w
  unfolding seat_of up_to
  seat_same h = ap seat_of (up_to_same 16 (λ i. get_or w' i 0) (λ i. get_or w i 0) h)

  numbers_same : (i : ℕ) → ((j : ℕ) → j < 32 → Same (i + j)) → numbers_at w' i ≡ numbers_at w i
  unfolding numbers_at
  numbers_same i h = up_to_same 32 _ _ (λ j l. ap signed_of (h j l))

  list_same : (k : ℕ) → bit_of (get_or w' 59 0) k ≡ bit_of (get_or w 59 0) k → ((j : ℕ) → j < 32 → Same (92 + 32 * k + j)) → list_at w' k ≡ list_at w k
  list_same k e h = λ i. record { entries = cond (e i) (numbers_same (92 + 32 * k) h i) zeros }

  lists_same : Same 59 → ((i : ℕ) → 92 ≤ i → Same i) → up_to 32 (list_at w') ≡ up_to 32 (list_at w)
  lists_same e h =
      up_to_same 32 (list_at w') (list_at w) (λ k l. list_same k (ap (λ (m : ℕ). bit_of m k) e) (λ j m. h (92 + 32 * k + j) (omega arith)))

  marks_same : ((i : ℕ) → 60 ≤ i → i < 92 → Same i) → up_to 32 (λ k. get_or w' (60 + k) 0) ≡ up_to 32 (λ k. get_or w (60 + k) 0)
  marks_same h = up_to_same 32 _ _ (λ k l. h (60 + k) (omega arith) (omega arith))

  -- the seat is read from the words before 16, and all else from those from 24 on
  head_by : ((i : ℕ) → i < 16 → Same i) → {heard marks confessed listed : ℕ} {entries : List ℤ} {list_marks : List ℕ} {lists : List Row}
      → get_or w' 24 0 ≡ heard → get_or w' 25 0 ≡ marks → numbers_at w' 26 ≡ entries → get_or w' 58 0 ≡ confessed → get_or w' 59 0 ≡ listed
      → up_to 32 (λ k. get_or w' (60 + k) 0) ≡ list_marks → up_to 32 (list_at w') ≡ lists
      → head_of w'
      ≡ record {
        seat = (head_of w).seat;
        heard = heard;
        list = record { marks = marks; entries = entries };
        links = record { confessed = confessed; listed = listed; marks = list_marks };
        lists = lists;
      }
  unfolding head_of
  head_by front a b c d e f g = λ i.
      record {
        seat = seat_same front i;
        heard = a i;
        list = record { marks = b i; entries = c i };
        links = record { confessed = d i; listed = e i; marks = f i };
        lists = g i;
      }

  pub head_same : ((i : ℕ) → i < 16 → Same i) → ((i : ℕ) → 24 ≤ i → Same i) → head_of w' ≡ head_of w
  unfolding head_of
  head_same front back =
      head_by front (back 24 (omega arith)) (back 25 (omega arith)) (numbers_same 26 (λ j l. back (26 + j) (omega arith))) (back 58 (omega arith)) (back 59 (omega arith))
      (marks_same (λ j l m. back j (omega arith))) (lists_same (back 59 (omega arith)) (λ j l. back j (omega arith)))

-- so it is no other for a word from 16 to 23
pub set_apart : (w : List ℕ) (i x : ℕ) → 16 ≤ i → i < 24 → head_of (set w i x) ≡ head_of w
set_apart w i x from to =
    head_same w (set w i x) (λ j l. get_or-set_other w i j x 0 (omega arith)) (λ j l. get_or-set_other w i j x 0 (omega arith))

-- ---- what is marked

module _ (w : List ℕ) (block : IsBlock w) (k : ℕ) where
  abbrev once : List ℕ
  once = marked 24 k w

  once_long : length once ≡ 1116
  once_long = length-set w 24 _ ∙ block

  once_there : get_or once 24 0 ≡ with_mark (get_or w 24 0) k
  once_there = get_or-set_same w 24 _ 0 (omega arith)

  once_other : (i : ℕ) → i ≢ 24 → get_or once i 0 ≡ get_or w i 0
  once_other i d = get_or-set_other w 24 i _ 0 d

  module _ (at : ℕ) (d : at ≢ 24) (within : at < 1116) where
    abbrev twice : List ℕ
    twice = marked at k once

    twice_long : length twice ≡ 1116
    twice_long = length-set once at _ ∙ once_long

    twice_heard : get_or twice 24 0 ≡ with_mark (get_or w 24 0) k
    twice_heard = get_or-set_other once at 24 _ 0 (λ e. d (sym e)) ∙ once_there

    twice_there : get_or twice at 0 ≡ with_mark (get_or w at 0) k
    twice_there = get_or-set_same once at _ 0 (omega (arith, once_long)) ∙ ap (λ (m : ℕ). with_mark m k) (once_other at d)

    twice_other : (i : ℕ) → (i ≢ 24) × (i ≢ at) → get_or twice i 0 ≡ get_or w i 0
    twice_other i x = get_or-set_other once at i _ 0 x.1 ∙ once_other i x.0

-- ---- what each meaning changes, in a block without an offer

module _ (w : List ℕ) (block : IsBlock w) (k : ℕ) (below : k < 32) where
  -- silence
  pub null_is : head_of (marked 24 k w) ≡ taken (head_of w) k (collected None)
  unfolding head_of
  null_is =
      let w' = marked 24 k w in
      let same : (i : ℕ) → i ≢ 24 → get_or w' i 0 ≡ get_or w i 0 = once_other w block k in
      head_by w w' (λ j l. same j (omega arith)) (once_there w block k) (same 25 (omega arith)) (numbers_same w w' 26 (λ j l. same (26 + j) (omega arith)))
      (same 58 (omega arith)) (same 59 (omega arith)) (marks_same w w' (λ j l m. same j (omega arith))) (lists_same w w' (same 59 (omega arith)) (λ j l. same j (omega arith)))

  pub confession_is : head_of (marked 58 k (marked 24 k w)) ≡ taken (head_of w) k confessed
  unfolding head_of
  confession_is =
      let w' = marked 58 k (marked 24 k w) in
      let same : (i : ℕ) → (i ≢ 24) × (i ≢ 58) → get_or w' i 0 ≡ get_or w i 0 = twice_other w block k 58 (omega arith) (omega arith) in
      head_by w w' (λ j l. same j (omega arith)) (twice_heard w block k 58 (omega arith) (omega arith)) (same 25 (omega arith))
      (numbers_same w w' 26 (λ j l. same (26 + j) (omega arith))) (twice_there w block k 58 (omega arith) (omega arith)) (same 59 (omega arith))
      (marks_same w w' (λ j l m. same j (omega arith))) (lists_same w w' (same 59 (omega arith)) (λ j l. same j (omega arith)))

  module _ (v : ℤ) (fits : Fits32 v) where
    abbrev before : List ℕ
    before = marked 25 k (marked 24 k w)

    abbrev placed : List ℕ
    placed = set before (26 + k) (word_of v)

    placed_other : (i : ℕ) → (i ≢ 24) × (i ≢ 25) × (i ≢ 26 + k) → get_or placed i 0 ≡ get_or w i 0
    placed_other i x = get_or-set_other before (26 + k) i _ 0 x.2 ∙ twice_other w block k 25 (omega arith) (omega arith) i (x.0, x.1)

    placed_there : get_or placed (26 + k) 0 ≡ word_of v
    placed_there = get_or-set_same before (26 + k) _ 0 (omega (arith, twice_long w block k 25 (omega arith) (omega arith)))

    numbers_placed : numbers_at placed 26 ≡ set (numbers_at w 26) k v
    unfolding numbers_at
    numbers_placed =
        up_to_set 32 (λ j. signed_of (get_or w (26 + j) 0)) (λ j. signed_of (get_or placed (26 + j) 0)) k v (ap signed_of placed_there ∙ signed_back v fits)
        (λ j l d. ap signed_of (placed_other (26 + j) (omega arith)))

    pub position_is : head_of placed ≡ taken (head_of w) k (collected (Some v))
    unfolding head_of
    position_is =
        let two = twice_heard w block k 25 (omega arith) (omega arith) in
        let mark = twice_there w block k 25 (omega arith) (omega arith) in
        head_by w placed (λ j l. placed_other j (omega arith)) (get_or-set_other before (26 + k) 24 (word_of v) 0 (omega arith) ∙ two)
        (get_or-set_other before (26 + k) 25 (word_of v) 0 (omega arith) ∙ mark) numbers_placed (placed_other 58 (omega arith)) (placed_other 59 (omega arith))
        (marks_same w placed (λ j l m. placed_other j (omega arith))) (lists_same w placed (placed_other 59 (omega arith)) (λ j l. placed_other j (omega arith)))

  module _ (t : Table) (fits : FitNumbers t.entries) where
    abbrev marked_list : List ℕ
    marked_list = marked 59 k (marked 24 k w)

    abbrev word_stored : List ℕ
    word_stored = set marked_list (60 + k) t.marks

    abbrev stored : List ℕ
    stored = paste word_stored (92 + 32 * k) (words_of t.entries) 32

    word_long : length word_stored ≡ 1116
    word_long = length-set marked_list (60 + k) _ ∙ twice_long w block k 59 (omega arith) (omega arith)

    fits_in : 92 + 32 * k + 32 ≤ length word_stored
    fits_in = omega (arith, word_long)

    -- before list k, and behind it
    stored_before : (i : ℕ) → i < 92 + 32 * k → get_or stored i 0 ≡ get_or word_stored i 0
    stored_before i l = copied_before word_stored (words_of t.entries) (92 + 32 * k) 32 0 (words_long t.entries) fits_in i l

    stored_behind : (i : ℕ) → 92 + 32 * k + 32 ≤ i → get_or stored i 0 ≡ get_or word_stored i 0
    stored_behind i l = copied_behind word_stored (words_of t.entries) (92 + 32 * k) 32 0 (words_long t.entries) fits_in i l

    stored_there : (j : ℕ) → j < 32 → get_or stored (92 + 32 * k + j) 0 ≡ get_or (words_of t.entries) j 0
    stored_there j l = copied_there word_stored (words_of t.entries) (92 + 32 * k) 32 0 (words_long t.entries) fits_in j l

    word_other : (i : ℕ) → (i ≢ 24) × (i ≢ 59) × (i ≢ 60 + k) → get_or word_stored i 0 ≡ get_or w i 0
    word_other i x = get_or-set_other marked_list (60 + k) i _ 0 x.2 ∙ twice_other w block k 59 (omega arith) (omega arith) i (x.0, x.1)

    -- before the lists
    low_other : (i : ℕ) → (i < 92) × (i ≢ 24) × (i ≢ 59) × (i ≢ 60 + k) → get_or stored i 0 ≡ get_or w i 0
    low_other i x = stored_before i (omega arith) ∙ word_other i (x.1, x.2, x.3)

    -- the mark word
    word_there : get_or stored (60 + k) 0 ≡ t.marks
    word_there =
        stored_before (60 + k) (omega arith)
        ∙ get_or-set_same marked_list (60 + k) _ 0 (omega (arith, twice_long w block k 59 (omega arith) (omega arith)))

    marks_stored : up_to 32 (λ j. get_or stored (60 + j) 0) ≡ set (up_to 32 (λ j. get_or w (60 + j) 0)) k t.marks
    marks_stored =
        up_to_set 32 (λ j. get_or w (60 + j) 0) (λ j. get_or stored (60 + j) 0) k t.marks word_there (λ j l d. low_other (60 + j) (omega arith))

    -- the links that gave a list
    listed_there : get_or stored 59 0 ≡ with_mark (get_or w 59 0) k
    listed_there =
        stored_before 59 (omega arith)
        ∙ get_or-set_other marked_list (60 + k) 59 t.marks 0 (omega arith)
        ∙ twice_there w block k 59 (omega arith) (omega arith)

    -- list k
    this_list : list_at stored k ≡ record { entries = t.entries }
    this_list =
        rw (listed_there, with_same (get_or w 59 0) k below)
        (ap (λ (E : List ℤ). record { entries = E }) (numbers_back stored (92 + 32 * k) t.entries fits (λ j l. stored_there j l ∙ word_at t.entries j l)))

    -- any other
    other_list : (j : ℕ) → j < 32 → j ≢ k → list_at stored j ≡ list_at w j
    other_list j l d =
        list_same w stored j (ap (λ (m : ℕ). bit_of m j) listed_there ∙ with_other (get_or w 59 0) k below j d) (λ i m. go i m (dec_lt j k))
      where
        go : (i : ℕ) → i < 32 → Dec (j < k) → get_or stored (92 + 32 * j + i) 0 ≡ get_or w (92 + 32 * j + i) 0
        go i m (yes h) = stored_before (92 + 32 * j + i) (omega arith) ∙ word_other (92 + 32 * j + i) (omega arith)
        go i m (no h) = stored_behind (92 + 32 * j + i) (omega arith) ∙ word_other (92 + 32 * j + i) (omega arith)

    lists_stored : up_to 32 (list_at stored) ≡ set (up_to 32 (list_at w)) k (record { entries = t.entries })
    lists_stored = up_to_set 32 (list_at w) (list_at stored) k (record { entries = t.entries }) this_list other_list

    pub list_is : head_of stored ≡ taken (head_of w) k (listed t)
    unfolding head_of
    list_is =
        let two = twice_heard w block k 59 (omega arith) (omega arith) in
        head_by w stored (λ j l. low_other j (omega arith))
        (stored_before 24 (omega arith) ∙ get_or-set_other marked_list (60 + k) 24 t.marks 0 (omega arith) ∙ two) (low_other 25 (omega arith))
        (numbers_same w stored 26 (λ j l. low_other (26 + j) (omega arith))) (low_other 58 (omega arith)) listed_there marks_stored lists_stored
