-- Document 02, A8: a receiver that has not adopted when the first frame of the next round is sent counts as struck in the round that it did
-- not end, in its mark word and within f, and is restarted like one. In that round it was not struck in truth: it sent what it had to say,
-- and heard.
-- proofs/Late.antt proves demand 3 with such receivers.
use Rattle.std.specs.Prelude.{Bool, not, cond, ◌&&◌, List, [], ◌∷◌, ℕ, ℤ}
use Rattle.terms.specs.declared.Family.{Family}
use Rattle.terms.specs.Sizes.{ends_with}
use Rattle.marks.specs.Marks.{bit_of}
use Rattle.head_spec.specs.Calls.{restarted, hear_all, frame_for}
use Rattle.head_spec.specs.declared.Head.{Head}
use Rattle.ring_spec.specs.Rounds.{Round, planted, lost, Ring, round_ended, phase_then, round_then, PhaseEnd, phase_end, with_end, first_heads, first_end}
use Rattle.ring_spec.specs.Converges.{RingWithin, AnyTwo}

-- A round whose mark word has the struck receivers and the late ones; late: which of those that it marks are only late; left: the records
-- that these are left with, whatever they are: the record as it was when the round was heard, with an offer or without, or any other (Q70).
pub record LateRound : Type 0 where
  pub round : Round
  pub late : ℕ → Bool
  pub left : ℕ → Head

-- the mark words of late rounds as those of rounds: who is counted as struck
unfoldable pub late_rounds : List LateRound → List Round
late_rounds [] = []
late_rounds (w ∷ ws) = w.round ∷ late_rounds ws

module _ (K : Family) (n f : ℕ) (R : Ring) (w : LateRound) where
  -- counted as struck, and struck in truth
  abbrev pub is_counted : ℕ → Bool
  is_counted i = bit_of w.round.struck i

  abbrev pub is_truly_struck : ℕ → Bool
  is_truly_struck i = is_counted i && not (w.late i)

  -- record i as the round opens: a struck one's is lost, a healed one is restarted, and so is one that was late in the round before
  unfoldable pub opened_late : ℕ → Head
  opened_late i =
      cond (is_truly_struck i) lost
      (cond (bit_of R.before i) (restarted K n f i R.phase R.round) (R.heads i))

  -- a late head sends what it has to say
  unfoldable pub carried_late : ℕ → ℕ → List ℕ
  carried_late i k = cond (is_truly_struck k) (planted w.round.plants k i) (frame_for (opened_late k))

  -- the round of a late receiver is not ended
  unfoldable pub closed_late : ℕ → Head
  closed_late i =
      cond (is_truly_struck i) lost (cond (is_counted i) (w.left i) (round_ended (hear_all (opened_late i) (carried_late i) n)))

unfoldable pub after_late : (K : Family) (n f : ℕ) (R : Ring) (w : LateRound) → Ring
after_late K n f R w =
    record {
      phase = phase_then (ends_with K R.round) R.phase;
      round = round_then (ends_with K R.round);
      before = w.round.struck;
      heads = closed_late K n f R w;
    }

module _ (K : Family) (n f : ℕ) (v : ℕ → ℤ) where
  unfoldable pub ring_after_late : List LateRound → Ring
  ring_after_late [] = record { phase = 1; round = 0; before = 0; heads = first_heads K n f v }
  ring_after_late (w ∷ ws) = after_late K n f (ring_after_late ws) w

  unfoldable pub ends_after_late : List LateRound → List PhaseEnd
  ends_after_late [] = first_end K n f v ∷ []
  ends_after_late (w ∷ ws) =
      with_end (ends_with K (ring_after_late ws).round) (phase_end K (ring_after_late ws).before w.round.struck (ring_after_late (w ∷ ws)).heads) (ends_after_late ws)

-- demand 3, with those that did not adopt counted as struck
abbrev pub LateConverges : Type 0
LateConverges =
    (K : Family) (n m f : ℕ) (v : ℕ → ℤ) (ws : List LateRound) → RingWithin K n m f v (late_rounds ws) → AnyTwo K n m f (ends_after_late K n f v ws)
