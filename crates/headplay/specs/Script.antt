-- What a record of a script does to the head's record and its offer, and the number that the call answers. src/main.rt has the records.
use Rattle.std.specs.Prelude.{cond, ◌&&◌, List, ℕ, zero, suc, ltb, leb, eqb, pos, length, get_or, take, drop, replicate, None}
use Rattle.terms.specs.Refusals.{leaves}
use Rattle.terms.specs.declared.Family.{Family}
use Rattle.terms.specs.declared.Family.TheVariants.{TwoRounds}
use Rattle.fields.specs.Bytes.{at2, at4, signed_at}
use Rattle.head_spec.specs.declared.Head.{Head}
use Rattle.head_spec.specs.declared.Answer.{Answer}
use Rattle.head_spec.specs.Kept.{Offer}
use Rattle.head_spec.specs.Seats.{family_in}
use Rattle.head_spec.specs.Batch.{hear_batch, batch_refusal, deliveries_of}
use Rattle.head_spec.specs.Calls.{started, start, restart, start_listener, restart_listener, hear, answers_to, write_answer, close, adopt}
use Rattle.head_spec.specs.Offers.{lapsed, lapsed_by, offered}
use Rattle.head_lent.specs.Answers.{closed_number, written_number}
use Rattle.headplay.specs.declared.Outcome.{Outcome}

-- the offer lapses if nothing was refused
abbrev pub answered : Answer → Offer → Outcome
answered a o = record { number = a.refusal; head = a.head; offer = lapsed a.refusal o }

-- the family of the ring that calls 0 to 3 are for: byte 23
abbrev pub family_at : List ℕ → Family
family_at s = family_in (get_or s 23 0)

-- calls 0 to 3, with the arguments of the record s
unfoldable pub opening : ℕ → List ℕ → Head → Answer
opening c s h =
    cond (eqb c 0) (start h (family_at s) (at4 s 3) (at4 s 7) (at4 s 11) (signed_at s 15))
    (cond (eqb c 1) (restart h (family_at s) (at4 s 3) (at4 s 7) (at4 s 11) (at4 s 15) (at4 s 19))
    (cond (eqb c 2) (start_listener h (family_at s) (at4 s 3) (at4 s 7) (at4 s 11))
    (restart_listener h (family_at s) (at4 s 3) (at4 s 7) (at4 s 11) (at4 s 15) (at4 s 19))))

-- frames heard in one call, with room for this many answers
unfoldable pub batched : (h : Head) (b : List ℕ) (room : ℕ) (o : Offer) → Outcome
batched h b room o = record {
  number = (hear_batch h b room).refusal;
  head = (hear_batch h b room).head;
  offer = leaves (batch_refusal b room) (lapsed_by (answers_to h (deliveries_of b)) o) o;
}

-- what the head has to say, written into a buffer with this room
abbrev pub write_outcome : Head → ℕ → Offer → Outcome
write_outcome h room o = record { number = written_number (write_answer h (replicate room 0)); head = h; offer = o }

abbrev pub closed : Head → Offer → Outcome
closed h o = record { number = closed_number (close h).closed; head = (close h).head; offer = offered (close h).closed o }

-- c is the record's call; byte 3 is the room that it gives
unfoldable pub turn_of : (c : ℕ) (s : List ℕ) (h : Head) (o : Offer) → Outcome
turn_of c s h o =
    cond (ltb c 4) (answered (opening c s h) o)
    (cond (eqb c 4) (answered (hear h (at4 s 3) (drop 7 s)) o)
    (cond (eqb c 5) (batched h (drop 4 s) (get_or s 3 0) o)
    (cond (eqb c 6) (write_outcome h (get_or s 3 0) o)
    (cond (eqb c 7) (closed h o)
    (cond (eqb c 8) (answered (adopt h o) o)
    (record { number = 0; head = h; offer = o }))))))

abbrev pub turn : List ℕ → Head → Offer → Outcome
turn s h o = turn_of (get_or s 2 0) s h o

-- ---- a whole script

-- the length of the first record, or 0 if it is cut
abbrev pub record_size : List ℕ → ℕ
record_size s = cond (leb 3 (at2 s 0) && leb (at2 s 0) (length s)) (at2 s 0) 0

-- its records one after the other, m of them at most, up to one that is cut
unfoldable pub played_up_to : ℕ → List ℕ → Outcome → Outcome
played_up_to zero s x = x
played_up_to (suc m) s x =
    cond (eqb (record_size s) 0) x (played_up_to m (drop (record_size s) s) (turn (take (record_size s) s) x.head x.offer))

-- no script has more records than bytes; at first the head is head 0 of a ring of one, at 0 (D11)
abbrev pub played : List ℕ → Outcome
played s = played_up_to (length s) s (record { number = 0; head = started TwoRounds 1 0 0 (pos 0); offer = None })
