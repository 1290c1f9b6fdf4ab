-- What each call answers and what it makes of the record. A refusal gives its number and leaves the record as it was. K is the family of
-- the ring: a phase of one round (document 02, A9) has round 0 alone, in which heads send positions, as in collection, and which ends the
-- phase, as confession does.
use Rattle.std.specs.Prelude.{Bool, true, false, not, cond, ◌&&◌, List, [], ◌∷◌, ℕ, zero, suc, ltb, set, ℤ, None, Some, Ok, Err}
use Rattle.terms.specs.Refusals as refusal
use Rattle.terms.specs.Refusals.{check}
use Rattle.terms.specs.Sizes.{check_size, rounds_of, ends_with, is_phase, is_listener}
use Rattle.terms.specs.Positions.{is_position, rounding}
use Rattle.terms.specs.Entry.{Entry}
use Rattle.terms.specs.declared.Family.{Family}
use Rattle.terms.specs.declared.Table.{Table}
use Rattle.marks.specs.Marks.{bit_of, with_mark}
use Rattle.convergence.specs.Settling.{rule_of}
use Rattle.settle_midpoint.specs.Answers.{settling}
use Rattle.settle_midpoint.specs.declared.Kept.{Kept}
use Rattle.settle_midpoint.specs.Settled.{Settled}
use Rattle.frame_spec.specs.Said.{Meaning, refused, collected, listed, confessed, refusal_of, said}
use Rattle.frame_spec.specs.Written.{frame_of, written, buffered}
use Rattle.frame_spec.specs.Length.{Written}
use Rattle.settle_trust.specs.declared.Links.{Links}
use Rattle.head_spec.specs.declared.Row.{Row}
use Rattle.head_spec.specs.declared.Seat.{Seat}
use Rattle.head_spec.specs.declared.Head.{Head}
use Rattle.head_spec.specs.declared.Answer.{Answer}
use Rattle.head_spec.specs.declared.Closed.{Closed}
use Rattle.head_spec.specs.declared.Closing.{Closing}
use Rattle.head_spec.specs.Kept.{Offer}
use Rattle.head_spec.specs.Record.{no_entries, opened, entries_by}
use Rattle.head_spec.specs.Seats.{first_seat, healed_seat, confession_seat, next_seat}

-- the record changed if nothing was refused
abbrev pub answer : ℕ → Head → Head → Answer
answer zero new old = record { refusal = 0; head = new }
answer (suc c) new old = record { refusal = suc c; head = old }

-- ---- a start gives n, f, number and position, and opens phase 1; checks 1, 2 (in a ring of one round 18), 3, 4

-- the number that a start answers; 0 if it is taken (P34, Q76)
unfoldable pub start_refusal : (K : Family) (n f number : ℕ) (position : ℤ) → ℕ
start_refusal K n f i v = check_size K n f (check (ltb i n) refusal.number_too_high (check (is_position v) refusal.position_out_of_range 0))

-- the record of a head that is started, whatever it was (P37)
unfoldable pub started : (K : Family) (n f number : ℕ) (position : ℤ) → Head
started K n f i v = opened (first_seat K n f i (Some v)) no_entries

unfoldable pub start : (h : Head) (K : Family) (n f number : ℕ) (position : ℤ) → Answer
start h K n f i v = answer (start_refusal K n f i v) (started K n f i v) h

-- ---- a restart gives phase and round in place of the position; checks 1, 2 or 18, 3, 5. The head is healed, with no position

-- a phase and a round that there are (P35)
abbrev pub is_time : Family → ℕ → ℕ → Bool
is_time K p r = is_phase p && ltb r (rounds_of K)

-- the number that a restart answers; 0 if it is taken (P34, Q76)
unfoldable pub restart_refusal : (K : Family) (n f number phase round : ℕ) → ℕ
restart_refusal K n f i p r = check_size K n f (check (ltb i n) refusal.number_too_high (check (is_time K p r) refusal.phase_out_of_range 0))

unfoldable pub restarted : (K : Family) (n f number phase round : ℕ) → Head
restarted K n f i p r = opened (healed_seat K n f i p r) no_entries

unfoldable pub restart : (h : Head) (K : Family) (n f number phase round : ℕ) → Answer
restart h K n f i p r = answer (restart_refusal K n f i p r) (restarted K n f i p r) h

-- ---- a listener (document 02, A6) is a record with a number from 32 to 47. Its start gives no position; checks 1, 2 or 18, 3. Its restart
-- checks 1, 2 or 18, 3, 5 and makes the record that a head's makes. It hears and closes as a head does.

-- as a start, with a listener's number, 32 to 47, and without 4 (Q31, Q32)
unfoldable pub start_listener_refusal : (K : Family) (n f number : ℕ) → ℕ
start_listener_refusal K n f i = check_size K n f (check (is_listener i) refusal.number_too_high 0)

-- the record of a listener that is started: phase 1, no position (Q34)
unfoldable pub started_listener : (K : Family) (n f number : ℕ) → Head
started_listener K n f i = opened (first_seat K n f i None) no_entries

unfoldable pub start_listener : (h : Head) (K : Family) (n f number : ℕ) → Answer
start_listener h K n f i = answer (start_listener_refusal K n f i) (started_listener K n f i) h

-- as a restart, with a listener's number (Q33)
unfoldable pub restart_listener_refusal : (K : Family) (n f number phase round : ℕ) → ℕ
restart_listener_refusal K n f i p r = check_size K n f (check (is_listener i) refusal.number_too_high (check (is_time K p r) refusal.phase_out_of_range 0))

unfoldable pub restart_listener : (h : Head) (K : Family) (n f number phase round : ℕ) → Answer
restart_listener h K n f i p r = answer (restart_listener_refusal K n f i p r) (restarted K n f i p r) h

-- ---- hearing a frame on link k; checks 26, 3, 21, then those of the frame

-- what bytes s on link k say to a head in this seat, and which check refuses them
abbrev pub said_to : Seat → ℕ → List ℕ → Meaning
said_to x k s = said x.n x.phase x.round k s

abbrev pub refusal_to : Seat → ℕ → List ℕ → ℕ
refusal_to x k s = refusal_of x.n x.phase x.round k s

-- the number that hearing bytes s on link k answers, a head's own link too; 0 if they are taken (P09, P12, P16, Q35)
unfoldable pub hear_refusal : Head → ℕ → List ℕ → ℕ
hear_refusal h k s =
    check (not h.seat.ended) refusal.run_has_ended
    (check (ltb k h.seat.n) refusal.number_too_high
    (check (not (bit_of h.heard k)) refusal.already_heard
    (refusal_to h.seat k s)))

-- link k heard: the list that is being filled, which links confessed or gave a list, and the lists
abbrev pub hold : (h : Head) (k : ℕ) (t : Table) (g : Links) (l : List Row) → Head
hold h k t g l = record { seat = h.seat; heard = with_mark h.heard k; list = t; links = g; lists = l }

-- entry k of the list that is being filled
abbrev pub with_entry : Table → ℕ → Entry → Table
with_entry t k None = t
with_entry t k (Some v) = record { marks = with_mark t.marks k; entries = set t.entries k v }

abbrev pub with_confession : Links → ℕ → Links
with_confession g k = record { confessed = with_mark g.confessed k; listed = g.listed; marks = g.marks }

abbrev pub with_list : Links → ℕ → Table → Links
with_list g k t = record { confessed = g.confessed; listed = with_mark g.listed k; marks = set g.marks k t.marks }

-- the record when link k gave what is meant: an entry, a list or a confession (D16d)
abbrev pub taken : Head → ℕ → Meaning → Head
taken h k (refused c) = h
taken h k (collected e) = hold h k (with_entry h.list k e) h.links h.lists
taken h k (listed t) = hold h k h.list (with_list h.links k t) (set h.lists k (record { entries = t.entries }))
taken h k confessed = hold h k h.list (with_confession h.links k) h.lists

-- hearing bytes s on link k; only an accepted frame uses the link up (P11)
unfoldable pub hear : Head → ℕ → List ℕ → Answer
hear h k s = answer (hear_refusal h k s) (taken h k (said_to h.seat k s)) h

-- bytes delivered on a link
pub record Delivery : Type 0 where
  pub link : ℕ
  pub bytes : List ℕ

-- deliveries on any links, one after the other, going on past a refused one: the record after them, and what hearing each answers at that
-- point
unfoldable pub hear_each : Head → List Delivery → Head
hear_each h [] = h
hear_each h (d ∷ D) = hear_each (hear h d.link d.bytes).head D

unfoldable pub answers_to : Head → List Delivery → List ℕ
answers_to h [] = []
answers_to h (d ∷ D) = (hear h d.link d.bytes).refusal ∷ answers_to (hear h d.link d.bytes).head D

-- a delivery on each of m links, from link i on
abbrev pub on_links : (ℕ → List ℕ) → ℕ → ℕ → List Delivery
on_links g i zero = []
on_links g i (suc m) = record { link = i; bytes = g i } ∷ on_links g (suc i) m

-- links 0 .. n - 1, each with its frame
unfoldable pub hear_all : Head → (ℕ → List ℕ) → ℕ → Head
hear_all h g n = hear_each h (on_links g 0 n)

-- ---- writing; checks 26, 17 (a listener sends nothing), 24

-- what a head has to say: in round 0 its position, or silence if it is healed; in confession its list, or a confession if it is healed
-- (P18)
abbrev pub spoken_in : ℕ → Head → Meaning
spoken_in zero h = collected (cond h.seat.healed None h.seat.position)
spoken_in (suc r) h = cond h.seat.healed confessed (listed h.list)

unfoldable pub spoken : Head → Meaning
spoken h = spoken_in h.seat.round h

abbrev pub frame_for : Head → List ℕ
frame_for h = frame_of h.seat.n h.seat.number h.seat.phase (spoken h)

-- what writing a frame answers, its length or a number; the record is not changed (P20, Q36)
unfoldable pub write_answer : Head → List ℕ → Written
write_answer h buffer =
    cond h.seat.ended (Err refusal.run_has_ended)
    (cond (is_listener h.seat.number) (Err refusal.listener_sends_nothing) (written (frame_for h) buffer))

unfoldable pub write_buffer : Head → List ℕ → List ℕ
write_buffer h buffer = cond h.seat.ended buffer (cond (is_listener h.seat.number) buffer (buffered (frame_for h) buffer))

-- ---- the end of a round: a collection round leaves the list; the last round of a phase settles a position, and the phase ends

-- the collection round is closed: the list is kept for the confession round
unfoldable pub closed_collection : Head → Head
closed_collection h = opened (confession_seat h.seat) h.list

-- the phase has ended and settled k: the position, with the kept range and the trim (P30)
unfoldable pub closed_phase : Head → Kept → Head
closed_phase h k = opened (next_seat h.seat k) no_entries

abbrev pub closing : Closed → Head → Closing
closing c h = record { closed = c; head = h }

-- what the end of a phase settles
abbrev pub settling_of : Head → Settled
settling_of h = settling (rounding h.seat.phase) h.seat.n (rule_of h.seat.family h.seat.f) (entries_by h.seat.family h)

-- the end of the last round of a phase: refused, and all stays, or the phase has ended (P32)
abbrev pub end_settled : Settled → Head → Closing
end_settled (Err c) h = closing (Closed.Refused c) h
end_settled (Ok k) h = closing (Closed.Settled k) (closed_phase h k)

-- the end of a round in one step, closing and adopting together; is_last: the round is the last of its phase (P29, P31)
abbrev pub end_by : (is_last : Bool) (h : Head) → Closing
end_by false h = closing Closed.Listed (closed_collection h)
end_by true h = end_settled (settling_of h) h

abbrev pub is_last_round : Seat → Bool
is_last_round s = ends_with s.family s.round

unfoldable pub end_round : Head → Closing
end_round h = cond h.seat.ended (closing (Closed.Refused refusal.run_has_ended) h) (end_by (is_last_round h.seat) h)

-- ---- closing; checks 26, 25. It ends a collection round; in the last round of a phase it only offers the position, and the record stays
-- as it is (document 02, A8)

-- closing the last round of a phase: refused, or an offer; the record stays as it is either way (Q69)
abbrev pub offer_settled : Settled → Head → Closing
offer_settled (Err c) h = closing (Closed.Refused c) h
offer_settled (Ok k) h = closing (Closed.Settled k) h

-- closing; is_last: the round is the last of its phase (Q64)
abbrev pub close_in : (is_last : Bool) (h : Head) → Closing
close_in false h = closing Closed.Listed (closed_collection h)
close_in true h = offer_settled (settling_of h) h

-- closing a round; again, it offers the same again (Q65)
unfoldable pub close : Head → Closing
close h = cond h.seat.ended (closing (Closed.Refused refusal.run_has_ended) h) (close_in (is_last_round h.seat) h)

-- ---- adopting; checks 27, 26. What is offered becomes the head's position, and the phase ends

-- the number that adopting answers: no offer stands, or phase 65,535 has ended (Q67)
abbrev pub adopt_refusal : Head → Offer → ℕ
adopt_refusal h None = refusal.no_offer
adopt_refusal h (Some k) = check (not h.seat.ended) refusal.run_has_ended 0

abbrev pub adopted : Head → Offer → Head
adopted h None = h
adopted h (Some k) = closed_phase h k

-- adopting what is offered (Q68)
unfoldable pub adopt : Head → Offer → Answer
adopt h o = answer (adopt_refusal h o) (adopted h o) h
