-- What a frame says in a round in which positions are sent: a position, if it is the frame of one and the position is in range; else nothing that is heard.
use Rattle.std.specs.Prelude.{None, Some}
use Rattle.std.proofs.Common.{◌≡◌, ℕ, zero, suc, ◌+◌, ◌*◌, Bool, true, false, cond, ◌&&◌, eqb, leb, ◌≢◌, List, length, ℤ, sym, refl, ap, ◌∙◌, get_or-drop, ne_eqb}
use mathlib.Core.Logic.{by_cases}
use mathlib.Core.Bool.{and-false}
use native.Mathlib.Decide.{ℕ_discrete}
use Rattle.terms.specs.Refusals.{check, unless_refused}
use Rattle.terms.specs.Positions.{is_position}
use Rattle.terms.specs.Entry.{Entry}
use Rattle.fields.specs.Bytes.{at2, at4, signed_of, signed_at}
use Rattle.frame_check.specs.Check.{Kind, silence, list, confession, unknown, kind_field, length_field, sender_field, phase_field, check_frame}
use Rattle.frame_spec.specs.Said.{Meaning, refused, collected, number_in, rest_field, meaning, said, refusal_of}
use Rattle.head_spec.specs.Record.{heard_entry}
use Rattle.ring_play.specs.Inner.Collection.{is_position_frame}

-- a frame of another kind says no position, refused or not
heard_none : (x : ℕ) (a b c : Bool) (n : ℕ) (t : List ℕ)
    → heard_entry (unless_refused refused x (meaning (cond a silence (cond b list (cond c confession unknown))) n t)) ≡ None
heard_none (suc x) a b c n t = refl
heard_none zero true b c n t = refl
heard_none zero false true c n t = refl
heard_none zero false false true n t = refl
heard_none zero false false false n t = refl

-- a position frame of another length is refused
heard_short : (a b : Bool) (m : Meaning) → heard_entry (unless_refused refused (check a 6 (check b 6 8)) m) ≡ None
heard_short false b m = refl
heard_short true false m = refl
heard_short true true m = refl

-- one of its own length is heard if no field refuses it
heard_whole : (l k p r : Bool) (v : ℤ)
    → heard_entry (unless_refused refused (check l 6 (check k 9 (check p 23 (check r 11 0)))) (collected (Some v)))
    ≡ cond (l && (k && p)) (cond r (Some v) None) None
heard_whole false k p r v = refl
heard_whole true false p r v = refl
heard_whole true true false r v = refl
heard_whole true true true false v = refl
heard_whole true true true true v = refl

-- the number in the rest of a frame
number_rest : (s : List ℕ) → number_in (rest_field s) ≡ signed_at s 7
number_rest s = ap signed_of (four (get_or-drop 7 s 0 0) (get_or-drop 7 s 1 0) (get_or-drop 7 s 2 0) (get_or-drop 7 s 3 0))
  where
    four : {a b c d a' b' c' d' : ℕ} → a ≡ a' → b ≡ b' → c ≡ c' → d ≡ d'
        → a + 256 * b + 65536 * c + 16777216 * d ≡ a' + 256 * b' + 65536 * c' + 16777216 * d'
    four x y z w = rw (x, y, z, w) refl

module _ (n p k : ℕ) (s : List ℕ) where
  -- what is heard, with v for the number
  abbrev heard_as : ℤ → Entry
  heard_as v = cond (is_position_frame p k s) (cond (is_position v) (Some v) None) None

  -- a frame of another kind
  module _ (d : at2 s 2 ≢ 1) where
    no_frame : false ≡ is_position_frame p k s
    unfolding is_position_frame
    no_frame = rw (ne_eqb (at2 s 2) 1 d, and-false (eqb (length_field s) 11), and-false (eqb (length s) 11)) refl

    kind_other : kind_field s ≡ cond (eqb (at2 s 2) 2) silence (cond (eqb (at2 s 2) 3) list (cond (eqb (at2 s 2) 4) confession unknown))
    kind_other = rw (ne_eqb (at2 s 2) 1 d) refl

    heard_other : (v : ℤ) → heard_entry (said n p 0 k s) ≡ heard_as v
    unfolding said
    heard_other v =
        ap (λ (K : Kind). heard_entry (unless_refused refused (refusal_of n p 0 k s) (meaning K n (rest_field s)))) kind_other
        ∙ heard_none (refusal_of n p 0 k s) (eqb (at2 s 2) 2) (eqb (at2 s 2) 3) (eqb (at2 s 2) 4) n (rest_field s)
        ∙ ap (λ (b : Bool). cond b (cond (is_position v) (Some v) None) None) no_frame

  -- that of a position
  heard_position_lem : at2 s 2 ≡ 1 → heard_entry (said n p 0 k s) ≡ heard_as (number_in (rest_field s))
  unfolding said refusal_of check_frame is_position_frame
  heard_position_lem e = by_cases (ℕ_discrete (length s) 11)
      (λ l. rw (e, l) (heard_whole (eqb (length_field s) 11) (eqb (sender_field s) k) (eqb (phase_field s) p) (is_position (number_in (rest_field s))) (number_in (rest_field s))))
      (λ d. rw (e, ne_eqb (length s) 11 d) (heard_short (leb 4 (length s)) (eqb (length_field s) (length s)) _))

  entry_said : heard_entry (said n p 0 k s) ≡ heard_as (signed_at s 7)
  entry_said = by_cases (ℕ_discrete (at2 s 2) 1) (λ e. heard_position_lem e ∙ ap heard_as (number_rest s)) (λ d. heard_other d (signed_at s 7))

  -- the same with the answers of the code: f of the frame, r of the range of the word w
  pub heard_in_lem : {f r : Bool} {w : ℕ} → f ≡ is_position_frame p k s → w ≡ at4 s 7 → r ≡ is_position (signed_of w)
      → cond f (cond r (Some (signed_of w)) None) None ≡ heard_entry (said n p 0 k s)
  heard_in_lem e q i = rw (e, i, q) (sym entry_said)
