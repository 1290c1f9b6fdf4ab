-- What hearing makes of one link. Its checks are those of the link, and then those of the frame; a frame that no check refuses is of a known kind, so it
-- says something, and a frame that reading refuses is refused with the number of its first check that fails. So hearing answers what was said: the
-- refusal, with the record that was, or the record with what the link gave.
use mathlib.Core.Path.{◌≡◌, refl, ap, sym, ◌∙◌}
use mathlib.Core.Bool.{Bool, true, false, not, true≢false}
use mathlib.Core.List.{List}
use Prim.Native.Nat.{ℕ, zero, suc}
use lib.Dec.{eqb, leb, ltb}
use lib.ListN.{length}
use Rattle.terms.specs.Refusals as refusal
use Rattle.terms.specs.Refusals.{check, unless_refused}
use Rattle.marks.specs.Marks.{bit_of}
use Rattle.frame_check.specs.Check.{Kind, position, silence, list, confession, unknown, is_known, kind_field, length_field, check_frame}
use Rattle.terms.proofs.Checks.{passed}
use Rattle.frame_spec.specs.declared.Said.{Said}
use Rattle.frame_spec.specs.Said.{Meaning, refused, collected, listed, confessed, refusal_of, table_in, meaning, said, said_of, meant, rest_field}
use Rattle.frame_spec.specs.Proper.{AcceptedMeaning}
use Rattle.frame_spec.proofs.OneMeaning.{meant_said}
use Rattle.frame_codec.specs.declared.Parts.{Parts}
use Rattle.frame_codec.specs.Parts.{parts_of}
use Rattle.frame_codec.proofs.Taking.{refused_or, parts_mean}
use Rattle.head_spec.specs.declared.Head.{Head}
use Rattle.head_spec.specs.declared.Answer.{Answer}
use Rattle.head_spec.specs.Calls.{answer, said_to, refusal_to, hear_refusal, taken, hear}
use Rattle.head_hear.specs.Steps.{link_refusal, said_on}

-- ---- a frame that is not refused says something

known_says : (K : Kind) (n : ℕ) (s : List ℕ) → is_known K ≡ true → AcceptedMeaning (meaning K n s)
known_says position n s e = tt
known_says silence n s e = tt
known_says list n s e = tt
known_says confession n s e = tt
known_says unknown n s e = absurd (true≢false (sym e))

says_something : (n p r k : ℕ) (s : List ℕ) → refusal_of n p r k s ≡ 0 → AcceptedMeaning (meaning (kind_field s) n (rest_field s))
unfolding refusal_of check_frame
says_something n p r k s e =
    let first = passed (leb 4 (length s)) _ e in
    let second = passed (eqb (length_field s) (length s)) _ first.1 in
    let third = passed (is_known (kind_field s)) _ second.1 in
    known_says (kind_field s) n (rest_field s) third.0

-- ---- the answer to what was said

-- what link k says
abbrev pub link_says : Head → ℕ → List ℕ → Meaning
link_says h k s = let x = h.seat in said_on x.ended x.n x.phase x.round h.heard k s

-- what hearing answers to what a link says
abbrev pub answered : Head → ℕ → Meaning → Answer
answered h k (refused c) = record { refusal = c; head = h }
answered h k (collected x) = record { refusal = 0; head = taken h k (collected x) }
answered h k (listed t) = record { refusal = 0; head = taken h k (listed t) }
answered h k confessed = record { refusal = 0; head = taken h k confessed }

module _ (h : Head) (k : ℕ) (s : List ℕ) where
  -- the checks of the frame alone
  frame_answered : let m = said_to h.seat k s in answer (refusal_to h.seat k s) (taken h k m) h ≡ answered h k m
  unfolding said
  frame_answered =
      go (refusal_to h.seat k s) (meaning (kind_field s) h.seat.n (rest_field s)) (says_something h.seat.n h.seat.phase h.seat.round k s)
    where
      go : (c : ℕ) (m : Meaning) → (c ≡ 0 → AcceptedMeaning m) → answer c (taken h k (unless_refused refused c m)) h ≡ answered h k (unless_refused refused c m)
      go zero (refused d) a = absurd (a refl)
      go zero (collected x) a = refl
      go zero (listed t) a = refl
      go zero confessed a = refl
      go (suc c) m a = refl

  -- before them those of the link
  pub link_answered : answered h k (link_says h k s) ≡ hear h k s
  unfolding hear hear_refusal
  link_answered = sym (go (not h.seat.ended) (ltb k h.seat.n) (not (bit_of h.heard k)))
    where
      row : Bool → Bool → Bool → ℕ → ℕ
      row a b c rest = check a refusal.run_has_ended (check b refusal.number_too_high (check c refusal.already_heard rest))

      go : (a b c : Bool) → let m = said_to h.seat k s in
          answer (row a b c (refusal_to h.seat k s)) (taken h k m) h ≡ answered h k (unless_refused refused (row a b c 0) m)
      go true true true = frame_answered
      go true true false = refl
      go true false c = refl
      go false b c = refl

  -- the code has what is said as an enum, with the table of a list beside it
  meant_link : meant (said_of (link_says h k s)) (table_in h.seat.n (rest_field s)) ≡ link_says h k s
  meant_link = go (link_refusal h.seat.ended h.seat.n h.heard k)
    where
      go : (c : ℕ) → let m = unless_refused refused c (said_to h.seat k s) in meant (said_of m) (table_in h.seat.n (rest_field s)) ≡ m
      go zero = meant_said h.seat.n h.seat.phase h.seat.round k s
      go (suc c) = refl

-- ---- by the parts of what was said

-- a: whether it is accepted, l: a list, c: a confession
module _ (h : Head) (k : ℕ) (s : List ℕ) {what : Said} {p : Parts} (e : what ≡ said_of (link_says h k s)) (q : p ≡ parts_of what)
    {a l c : Bool} (y : p.accepted ≡ a) (i : p.list ≡ l) (j : p.confession ≡ c) where
  pub link_parts : refused_or p (table_in h.seat.n (rest_field s)) a l c ≡ link_says h k s
  link_parts =
      let t = table_in h.seat.n (rest_field s) in
      sym (parts_mean p t what q y i j).0 ∙ ap (λ (w : Said). meant w t) e ∙ meant_link h k s

  pub parts_answered : answered h k (refused_or p (table_in h.seat.n (rest_field s)) a l c) ≡ hear h k s
  parts_answered = ap (answered h k) link_parts ∙ link_answered h k s
