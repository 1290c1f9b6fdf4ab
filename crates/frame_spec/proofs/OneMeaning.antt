-- Two accepted frames with one meaning are the same bytes. An accepted frame is the one written for what it says: its bytes are its fields, one after
-- the other, up to its length, and each check that passed says of a field that it is what would be written there. The same checks show that what
-- it says is proper, and of this round.
use mathlib.Core.Path.{◌≡◌, refl, ap, ap₂, sym, ◌∙◌}
use mathlib.Core.Bool.{Bool, true, false, cond, true≢false}
use mathlib.Core.List.{List, [], ◌∷◌}
use Prim.Native.Nat.{ℕ, zero, suc, ◌+◌, ◌*◌, ◌^◌, ◌≤◌}
use native.Mathlib.Omega.{arith}
use lib.Dec.{eqb}
use lib.ListN.{length, drop, length-drop, drop_of_length-le}
use lib.Seq.{drop-cons, get_or-drop}
use borrow.Author.Tests.{eqb-true, ltb-true}
use Rattle.terms.specs.Refusals.{unless_refused}
use Rattle.terms.specs.Refusals as refusal
use Rattle.fields.specs.Bytes.{at2, at4, put4}
use Rattle.marks.specs.Marks.{marks_below}
use Rattle.fields.proofs.Bytes.{word_back}
use Rattle.entries.proofs.Entries.{numbers_length, numbers_read}
use Rattle.frame_check.specs.Check.{Kind, position, silence, list, confession, unknown, kind_of, is_known, length_of, kind_field, count_field, check_frame}
use Rattle.frame_check.proofs.Laws.{accepted_whole, accepted_known, accepted_length, accepted_long}
use Rattle.frame_spec.specs.Said.{round_of, rest_field, count_in, marks_in, entries_in, count_fits, range_fits, refusal_of, Meaning, refused, table_in, meaning, said, said_of, meant}
use Rattle.frame_spec.specs.Written.{header, frame_of}
use Rattle.frame_spec.specs.Proper.{AllBytes, AcceptedMeaning, ProperTable, Proper, round_of_meaning}
use Rattle.frame_spec.proofs.Accepting.{Passed, accepted}
use Rattle.terms.proofs.Booleans.{and_both}
use Rattle.frame_spec.proofs.Listing.{each_fits, numbers_none}
use Rattle.frame_spec.proofs.FieldByField.{word_small, four, common, entries_whole, drop_bytes}

-- ---- what is said

proper_table : (n : ℕ) (t : List ℕ) → n ≤ 32 → count_fits list n t ≡ true → range_fits list n t ≡ true → ProperTable n (table_in n t)
unfolding table_in marks_below
proper_table n t size c h =
    let m = marks_in t in
    let rest = entries_in t in
    record {
      below = ltb-true m (2 ^ n) (and_both (eqb (count_in t) n) _ c).1;
      long = numbers_length rest n;
      fit = λ j l. rw (numbers_read rest n j size l) (each_fits m rest n h j l);
      none = λ j l. numbers_none rest n j l;
    }

proper_kind : (K : Kind) (n : ℕ) (s : List ℕ) → n ≤ 32 → is_known K ≡ true → count_fits K n s ≡ true → range_fits K n s ≡ true → Proper n (meaning K n s)
proper_kind position n s size k c h = h
proper_kind silence n s size k c h = tt
proper_kind list n s size k c h = proper_table n s size c h
proper_kind confession n s size k c h = tt
proper_kind unknown n s size k c h = absurd (true≢false (sym k))

round_kind : (K : Kind) (n : ℕ) (s : List ℕ) → round_of_meaning (meaning K n s) ≡ round_of K
round_kind position n s = refl
round_kind silence n s = refl
round_kind list n s = refl
round_kind confession n s = refl
round_kind unknown n s = refl

module _ (n p r k : ℕ) (s : List ℕ) {m : Meaning} (e : said n p r k s ≡ m) (a : AcceptedMeaning m) where
  pub said_proper : n ≤ 32 → Proper n m
  said_proper size =
      let P = accepted n p r k s e a in
      rw (sym P.1) (proper_kind (kind_field s) n (rest_field s) size (accepted_known s P.0.frame) P.0.count P.0.range)

  pub said_round : round_of_meaning m ≡ r
  said_round = let P = accepted n p r k s e a in rw (sym P.1) (round_kind (kind_field s) n (rest_field s) ∙ P.0.of_round)

-- the enum, with the table beside it, is the whole meaning
pub meant_said : (n p r k : ℕ) (s : List ℕ) → meant (said_of (said n p r k s)) (table_in n (rest_field s)) ≡ said n p r k s
unfolding said
meant_said n p r k s = go (refusal_of n p r k s) (kind_field s)
  where
    go : (c : ℕ) (K : Kind) → meant (said_of (unless_refused refused c (meaning K n (rest_field s)))) (table_in n (rest_field s)) ≡ unless_refused refused c (meaning K n (rest_field s))
    go zero position = refl
    go zero silence = refl
    go zero list = refl
    go zero confession = refl
    go zero unknown = refl
    go (suc c) K = refl

-- an empty frame says nothing
pub nothing_said : (n p r k : ℕ) → said n p r k [] ≡ refused refusal.stated_length_differs
unfolding said refusal_of check_frame
nothing_said n p r k = refl

-- ---- the bytes of an accepted frame

-- the kind field of a known kind
abbrev number_of : Kind → ℕ
number_of position = 1
number_of silence = 2
number_of list = 3
number_of confession = 4
number_of unknown = 0

kind_number : (x : ℕ) → is_known (kind_of x) ≡ true → x ≡ number_of (kind_of x)
kind_number x = go (eqb x 1) (eqb x 2) (eqb x 3) (eqb x 4) (eqb-true x 1) (eqb-true x 2) (eqb-true x 3) (eqb-true x 4)
  where
    go : (a b c d : Bool) → (a ≡ true → x ≡ 1) → (b ≡ true → x ≡ 2) → (c ≡ true → x ≡ 3) → (d ≡ true → x ≡ 4)
        → is_known (cond a position (cond b silence (cond c list (cond d confession unknown)))) ≡ true
        → x ≡ number_of (cond a position (cond b silence (cond c list (cond d confession unknown))))
    go true b c d h i j k e = h refl
    go false true c d h i j k e = i refl
    go false false true d h i j k e = j refl
    go false false false true h i j k e = k refl
    go false false false false h i j k e = absurd (true≢false (sym e))

module _ (n p r k : ℕ) (s : List ℕ) (size : n ≤ 32) (B : AllBytes s) (P : Passed n p r k s) where
  -- the common fields are those that would be written
  front : (K : Kind) → at2 s 2 ≡ number_of K → length s ≡ length_of K (count_field s) → s ≡ header (length_of K (count_field s)) (number_of K) k p (drop 7 s)
  front K e l =
      let fields = common s B (accepted_long s P.frame) in
      rw (accepted_whole s P.frame ∙ l, e, P.sender, P.of_phase) at fields

  by_kind : (K : Kind) → is_known K ≡ true → at2 s 2 ≡ number_of K → length s ≡ length_of K (count_field s) → count_fits K n (rest_field s) ≡ true → s ≡ frame_of n k p (meaning K n (rest_field s))
  unfolding table_in
  by_kind position t e l c =
      let t = rest_field s in
      let C = drop_bytes s 7 B in
      let size : length t ≡ 4 = length-drop 7 s ∙ omega arith in
      front position e l
      ∙ ap (header 11 1 k p) (four t C 0 (omega arith) ∙ ap₂ put4 (sym (word_back (at4 t 0) (word_small t C 0))) (drop_of_length-le t {i = 4} (omega arith)))
  by_kind silence t e l c = front silence e l ∙ ap (header 7 2 k p) (drop_of_length-le s {i = 7} (omega arith))
  by_kind list t e l c =
      let t = rest_field s in
      let r : count_in t ≡ n = eqb-true (count_in t) n (and_both (eqb (count_in t) n) _ c).0 in
      let q : count_field s ≡ n = sym (get_or-drop 7 s 0 0) ∙ r in
      let C = drop_bytes s 7 B in
      let long : length t ≡ 5 + 4 * n = length-drop 7 s ∙ omega arith in
      front list e l
      ∙ ap₂ (λ (x : ℕ) (rest : List ℕ). header (12 + 4 * x) 3 k p rest) q
      (drop-cons t 0 0 (omega arith)
      ∙ ap₂ (λ (x : ℕ) (rest : List ℕ). x ∷ rest) r
      (four t C 1 (omega arith)
      ∙ ap (put4 (marks_in t)) (entries_whole (entries_in t) (drop_bytes t 5 C) n size (length-drop 5 t ∙ omega arith))))
  by_kind confession t e l c = front confession e l ∙ ap (header 7 4 k p) (drop_of_length-le s {i = 7} (omega arith))
  by_kind unknown t e l c = absurd (true≢false (sym t))

  written : s ≡ frame_of n k p (meaning (kind_field s) n (rest_field s))
  written =
      let known = accepted_known s P.frame in
      by_kind (kind_field s) known (kind_number (at2 s 2) known) (accepted_length s P.frame) P.count

-- an accepted frame is the one written for what it says
pub only_frame : (n p r k : ℕ) (s : List ℕ) {m : Meaning} → n ≤ 32 → AllBytes s → said n p r k s ≡ m → AcceptedMeaning m → s ≡ frame_of n k p m
only_frame n p r k s size B e a =
    let P = accepted n p r k s e a in
    written n p r k s size B P.0 ∙ ap (frame_of n k p) P.1

pub one_meaning : (n p r k : ℕ) (s t : List ℕ) {m : Meaning} → n ≤ 32 → AllBytes s → AllBytes t → said n p r k s ≡ m → said n p r k t ≡ m → AcceptedMeaning m → s ≡ t
one_meaning n p r k s t size B C e f a = only_frame n p r k s size B e a ∙ sym (only_frame n p r k t size C f a)
