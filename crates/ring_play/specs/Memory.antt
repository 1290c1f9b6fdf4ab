-- A round played on the heads' memory, which a player keeps apart from the records: the positions at the last phase end, and after a
-- collection round the list of each head. Each definition says what the head records would hear and make of it.
use Rattle.std.specs.Prelude.{◌≡◌, ℕ, ◌+◌, ◌-◌, ◌<◌, min, Bool, true, cond, not, ◌&&◌, List, [], ℤ, pos, ◌==◌, nat_lt, slice_index, slice_index_or, None, Some, Ok, Err}
use Rattle.terms.specs.Entry.{Entry}
use Rattle.terms.specs.declared.Table.{Table}
use Rattle.marks.specs.Marks.{bit_of}
use Rattle.terms.specs.Counting.{Each}
use Rattle.convergence.specs.Settling.{two_round_rule, one_round_rule}
use Rattle.convergence.specs.Trust.{Given, trusted}
use Rattle.terms.specs.Positions.{rounding}
use Rattle.frame_spec.specs.Said.{Meaning, collected, listed, confessed, said}
use Rattle.frame_spec.specs.Written.{frame_of}
use Rattle.frame_spec.specs.Proper.{Proper}
use Rattle.settle_midpoint.specs.Answers.{settling}
use Rattle.settle_midpoint.specs.Settled.{Settled}
use Rattle.head_spec.specs.Record.{heard_entry, given_of}
use Rattle.ring_spec.specs.Rounds.{is_receiver}
use Rattle.ring_play.specs.declared.Stage.{Stage}
use Rattle.terms.specs.Sizes.{first_listener}

-- the heads that are played: 32 at most
abbrev pub heads : Stage → ℕ
heads s = min s.n 32

-- the listeners that are played: 16 at most
abbrev pub listeners : Stage → ℕ
listeners s = min s.listeners 16

-- whether head i is played and not struck in this round
abbrev pub hears : Stage → ℕ → Bool
hears s i = nat_lt i (heads s) && not (bit_of s.struck i)

-- whether receiver i is struck in this round
abbrev pub is_away : Stage → ℕ → Bool
is_away s i = cond (nat_lt i first_listener) (bit_of s.struck i) (bit_of s.away (i - first_listener))

-- whether receiver i, a head or a listener, is played and not struck in this round
abbrev pub settles : Stage → ℕ → Bool
settles s i = is_receiver (heads s) (listeners s) i && not (is_away s i)

-- the number after the last receiver that is played
abbrev pub receiver_end : Stage → ℕ
receiver_end s = cond (listeners s == 0) (heads s) (first_listener + listeners s)

-- What link k carries to receiver i in round r: what is planted there, or the frame that says m, what head k has to say.
abbrev pub carries : (s : Stage) (plant : ℕ → ℕ → List ℕ) (i k : ℕ) (m : Meaning) → List ℕ
carries s plant i k m = cond (bit_of s.struck k) (plant k i) (frame_of (heads s) k s.phase m)

-- the same is planted from each struck head to receivers i and m
abbrev pub SamePlanted : (s : Stage) (plant : ℕ → ℕ → List ℕ) (i m : ℕ) → Type 0
SamePlanted s plant i m = (k : ℕ) → k < heads s → bit_of s.struck k ≡ true → plant k i ≡ plant k m

-- ---- collection

-- a healed head sends silence, a healthy one its position
abbrev pub sends : Stage → List ℤ → ℕ → Meaning
sends s positions k = collected (cond (bit_of s.before k) None (Some (slice_index_or positions k (pos 0))))

-- what each head sends is what a frame can say: a position is in range (D12)
abbrev pub InRange : Stage → List ℤ → Type 0
InRange s positions = Each (heads s) (λ k. Proper (heads s) (sends s positions k))

-- entry k of the list that head i fills
unfoldable pub list_entry : (s : Stage) (positions : List ℤ) (plant : ℕ → ℕ → List ℕ) (i k : ℕ) → Entry
list_entry s positions plant i k = heard_entry (said (heads s) s.phase 0 k (carries s plant i k (sends s positions k)))

-- ---- confession

-- the list of head k
abbrev pub row_in : List ℕ → List (List ℤ) → ℕ → Table
row_in marks lists k = record { marks = slice_index marks k; entries = slice_index_or lists k [] }

-- a healed head sends a confession, any other its list
abbrev pub replies : (s : Stage) (marks : List ℕ) (lists : List (List ℤ)) (k : ℕ) → Meaning
replies s marks lists k = cond (bit_of s.before k) confessed (listed (row_in marks lists k))

-- what each head sends is what a frame can say: the entries of a list are positions if they are marked, and else 0 (D12)
abbrev pub Sayable : Stage → List ℕ → List (List ℤ) → Type 0
Sayable s marks lists = Each (heads s) (λ k. Proper (heads s) (replies s marks lists k))

-- what link k gives receiver i
unfoldable pub given_entry : (s : Stage) (marks : List ℕ) (lists : List (List ℤ)) (plant : ℕ → ℕ → List ℕ) (i k : ℕ) → Given
given_entry s marks lists plant i k =
    given_of (said (heads s) s.phase 1 k (carries s plant i k (replies s marks lists k)))

-- a refusal leaves no position: 0 is none, and no ring within its limits comes to it (P65)
abbrev pub position_of : Settled → ℤ
position_of (Err c) = pos 0
position_of (Ok k) = k.position

-- the new position of receiver i
unfoldable pub new_position : (s : Stage) (marks : List ℕ) (lists : List (List ℤ)) (plant : ℕ → ℕ → List ℕ) (i : ℕ) → ℤ
new_position s marks lists plant i =
    position_of (settling (rounding s.phase) (heads s) (two_round_rule s.f) (trusted (heads s) s.f (given_entry s marks lists plant i)))

-- ---- a phase of one round (document 02, A9)

-- the new position of receiver i: from what it hears, by the rule of such a phase
unfoldable pub heard_position : (s : Stage) (positions : List ℤ) (plant : ℕ → ℕ → List ℕ) (i : ℕ) → ℤ
heard_position s positions plant i =
    position_of (settling (rounding s.phase) (heads s) (one_round_rule s.f) (list_entry s positions plant i))
