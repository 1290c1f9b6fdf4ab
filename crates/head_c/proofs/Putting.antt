-- A record put into a block part by part, from the front on: what is written so far stands before the rest of the block, so that each store goes on
-- where the last one ended.
use mathlib.Core.Path.{◌≡◌, refl, ap, sym, ◌∙◌}
use mathlib.Core.List.{List, [], ◌∷◌, ◌++◌, append_assoc}
use Prim.Native.Nat.{ℕ, zero, suc, ◌+◌, ◌≤◌, ◌<◌}
use native.Mathlib.Omega.{arith}
use lib.ListN.{length, get_or, set, take, drop, length-append, length-drop, length-set, take-append-drop}
use lib.ListN.{replicate, length-replicate, get_or-replicate}
use lib.Seq.{take_at, take_all, take-suc-set, drop-set-lt, drop-drop, drop-append-le, drop-append-add, append_snoc, length-take-le, length-slice, length-paste, get_or-set_other}
use lib.Seq.{sets, sets-eq, paste, slice}
use lib.IntN.{ℤ, pos}
use Rattle.fields.specs.Bytes.{word_of}
use Rattle.fields.proofs.Bytes.{word_back}
use Rattle.terms.specs.declared.Table.{Table}
use Rattle.terms.specs.Counting.{bit}
use Rattle.head_spec.specs.declared.Seat.{Seat}
use Rattle.head_spec.specs.declared.Head.{Head}
use Rattle.head_spec.specs.Record.{no_links, opened}
use Rattle.head_lent.specs.Answers.{held_number, held_or, range_number}
use Rattle.head_c.specs.Blocks.{IsBlock, up_to, numbers_at, words_of, kept_of, family_number, seat_words, with_head}
use Rattle.head_c.proofs.Copying.{up_to_long, up_to_at, up_to_list, copied_behind, copied_same}
use Rattle.head_c.proofs.Reading.{number_at}

-- ---- the words of numbers

pub words_long : (E : List ℤ) → length (words_of E) ≡ 32
unfolding words_of
words_long E = up_to_long 32 _

pub word_at : (E : List ℤ) (j : ℕ) → j < 32 → get_or (words_of E) j 0 ≡ word_of (get_or E j (pos 0))
unfolding words_of
word_at E j l = up_to_at 32 _ j 0 l

-- ---- nothing heard: only zeros

abbrev blank : ℕ → List ℕ
blank n = up_to n (λ i. 0)

blank_is : (n : ℕ) → replicate n 0 ≡ blank n
blank_is n = sym (up_to_list n (λ i. 0) (replicate n 0) 0 (length-replicate n 0) (λ i l. sym (get_or-replicate n i 0 0 l)))

no_links_lem : 0 ∷ 0 ∷ no_links.marks ≡ blank 34
unfolding no_links
no_links_lem = blank_is 34

-- ---- stores behind X, in a list that was w

module _ {A : Type 0} (w X : List A) (i : ℕ) (e : length X ≡ i) where
  on_paste : (s : List A) (n : ℕ) → length s ≡ n → i + n ≤ length w → paste (X ++ drop i w) i s n ≡ X ++ s ++ drop (i + n) w
  on_paste s n q fits =
      let rest : drop (i + n) (X ++ drop i w) ≡ drop (i + n) w = rw (← e) (drop-append-add X (drop (length X) w) n ∙ drop-drop n (length X) w) in
      rw (take_at X (drop i w) i e, take_all n s (omega arith), rest)

  on_gap : (j : ℕ) → i ≤ j → j ≤ length w → X ++ drop i w ≡ X ++ slice i j w ++ drop j w
  on_gap j l fits =
      let split : drop i w ≡ slice i j w ++ drop j w =
      ap (drop i) (sym (take-append-drop j w)) ∙ drop-append-le i (take j w) (drop j w) (omega (arith, length-take-le j w fits)) in
      ap (λ (r : List A). X ++ r) split ∙ sym (append_assoc X _ _)

-- a word stored before what is copied behind it
pub set_paste : {A : Type 0} (w s : List A) (i n : ℕ) (a : A) → i < length w → paste (set w i a) (suc i) s n ≡ paste w i (a ∷ s) (suc n)
set_paste {A = A} w s i n a h =
    let e : suc i + n ≡ i + suc n = omega arith in
    rw (take-suc-set w i a h, drop-set-lt (suc i + n) w i a (omega arith), e)
    (ap (λ (l : List A). l ++ drop (i + suc n) w) (append_snoc (take i w) a (take n s)))

-- ---- a seat

pub put_words : (s : Seat) (w : List ℕ) → IsBlock w → {healed ended held position ranged low high trim middle family : ℕ}
    → healed ≡ bit s.healed → ended ≡ bit s.ended
    → held ≡ held_number s.position → position ≡ word_of (held_or s.position (pos 0))
    → ranged ≡ range_number s.kept → low ≡ word_of (kept_of s.kept).low → high ≡ word_of (kept_of s.kept).high
    → trim ≡ (kept_of s.kept).trim → middle ≡ word_of (kept_of s.kept).position → family ≡ family_number s.family
    → sets w 0
    (s.n ∷ s.f ∷ s.number ∷ s.phase ∷ s.round ∷ healed ∷ ended ∷ held ∷ position ∷ ranged ∷ low ∷ high ∷ trim ∷ middle ∷ family ∷ s.since ∷ [])
    ≡ paste w 0 (seat_words s) 16
put_words s w block p q r t a b c d e g = rw (p, q, r, t, a, b, c, d, e, g) (sets-eq (seat_words s) w 0 (omega arith))

-- ---- a record

module _ (h : Head) (w : List ℕ) where
  -- what stands before the links heard, before the links that confessed, and before the lists
  abbrev pub first : List ℕ
  first = seat_words h.seat ++ slice 16 24 w

  abbrev pub second : List ℕ
  second = first ++ (h.heard ∷ h.list.marks ∷ words_of h.list.entries)

  abbrev pub third : List ℕ
  third = second ++ (h.links.confessed ∷ h.links.listed ∷ h.links.marks)

  module _ (block : IsBlock w) where
    pub first_long : length first ≡ 24
    first_long = length-append (seat_words h.seat) (slice 16 24 w) ∙ omega (arith, length-slice 16 24 w (omega arith))

    pub second_long : length second ≡ 58
    second_long = length-append first _ ∙ omega (arith, first_long, words_long h.list.entries)

    pub third_long : length h.links.marks ≡ 32 → length third ≡ 92
    third_long long = length-append second _ ∙ omega (arith, second_long)

-- a record with nothing heard
pub put_record : (s : Seat) (t : Table) (w : List ℕ) → IsBlock w → {w₁ w₂ w₃ : List ℕ} → w₁ ≡ paste w 0 (seat_words s) 16
    → w₂ ≡ paste (set w₁ 24 0) 25 (t.marks ∷ words_of t.entries) 33 → w₃ ≡ paste w₂ 58 (blank 34) 34 → w₃ ≡ with_head (opened s t) w
unfolding with_head no_links
put_record s t w block {w₁} {w₂} {w₃} a b c =
    let h = opened s t in
    let x = first h w in
    let y = second h w in
    let words = t.marks ∷ words_of t.entries in
    let long = first_long h w block in
    let a' : w₁ ≡ x ++ drop 24 w = a ∙ on_gap w (seat_words s) 16 refl 24 (omega arith) (omega arith) in
    let b' : w₂ ≡ y ++ drop 58 w =
    b
    ∙ rw a' (set_paste (x ++ drop 24 w) words 24 33 0 (omega (arith, long, length-append x (drop 24 w), length-drop 24 w)))
    ∙ on_paste w x 24 long (0 ∷ words) 34 (omega (arith, words_long t.entries)) (omega arith) in
    c
    ∙ rw b' (on_paste w y 58 (second_long h w block) (blank 34) 34 (up_to_long 34 _) (omega arith))
    ∙ ap (λ (l : List ℕ). y ++ l ++ drop 92 w) (sym no_links_lem)

-- the same of a record whose list stands: its words are no others
pub put_round : (s : Seat) (w : List ℕ) → IsBlock w → ((i : ℕ) → get_or w i 0 < 4294967296) → {w₁ w₃ : List ℕ} → w₁ ≡ paste w 0 (seat_words s) 16
    → w₃ ≡ paste (set w₁ 24 0) 58 (blank 34) 34 → w₃ ≡ with_head (opened s (record { marks = get_or w 25 0; entries = numbers_at w 26 })) w
put_round s w block small {w₁} {w₃} a c = put_record s t w block a (sym stands) c
  where
    t : Table
    t = record { marks = get_or w 25 0; entries = numbers_at w 26 }

    long : length w₁ ≡ 1116
    long = ap length a ∙ length-paste w 0 (seat_words s) 16 (omega arith) (omega arith) ∙ block

    behind : (i : ℕ) → 25 ≤ i → get_or (set w₁ 24 0) i 0 ≡ get_or w i 0
    behind i l =
        get_or-set_other w₁ 24 i 0 0 (omega arith)
        ∙ ap (λ (v : List ℕ). get_or v i 0) a
        ∙ copied_behind w (seat_words s) 0 16 0 refl (omega arith) i (omega arith)

    at_j : (j : ℕ) → j < 33 → get_or (t.marks ∷ words_of t.entries) j 0 ≡ get_or (set w₁ 24 0) (25 + j) 0
    at_j zero l = sym (behind 25 (omega arith))
    at_j (suc j) l =
        let m : j < 32 = omega arith in
        let e : 25 + suc j ≡ 26 + j = omega arith in
        word_at (numbers_at w 26) j m
        ∙ ap word_of (number_at w 26 j m)
        ∙ word_back (get_or w (26 + j) 0) (small (26 + j))
        ∙ sym (ap (λ (i : ℕ). get_or (set w₁ 24 0) i 0) e ∙ behind (26 + j) (omega arith))

    stands : paste (set w₁ 24 0) 25 (t.marks ∷ words_of t.entries) 33 ≡ set w₁ 24 0
    stands =
        copied_same (set w₁ 24 0) (t.marks ∷ words_of t.entries) 25 33 0 (omega (arith, words_long t.entries))
        (omega (arith, long, length-set w₁ 24 0)) at_j
