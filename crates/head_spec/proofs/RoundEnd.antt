-- The end of a round. A collection round is never refused. The last round of a phase is refused 25 exactly if too many entries are null, and else the record
-- holds the position that was answered. What the end makes is a round just opened, and a proper record stays proper.
use Rattle.std.specs.Prelude.{Ok, Err}
use mathlib.Core.Path.{◌≡◌, refl, ap, sym, ◌∙◌}
use mathlib.Core.Bool.{Bool, true, false, cond, true≢false}
use Prim.Native.Nat.{ℕ, zero, suc, ◌+◌, ◌≤◌, ◌<◌}
use native.Mathlib.Omega.{arith}
use borrow.Author.Tests.{leb-false, lt-leb}
use Rattle.terms.specs.Refusals as refusal
use Rattle.terms.specs.Sizes.{rounds_of, ends_with}
use Rattle.terms.specs.declared.Family.{Family}
use Rattle.terms.specs.declared.Family.TheVariants.{TwoRounds, OneRound}
use Rattle.convergence.specs.Settling.{nulls, rule_of, ordered, midpoint, enough}
use Rattle.terms.specs.Positions.{rounding}
use Rattle.convergence.proofs.Demand3.{rounding_le}
use Rattle.convergence.proofs.Support.{not_null}
use Rattle.settle_midpoint.specs.Answers.{kept, settling}
use Rattle.settle_midpoint.specs.declared.Kept.{Kept}
use Rattle.settle_midpoint.specs.Settled.{Settled}
use Rattle.head_spec.specs.declared.Seat.{Seat}
use Rattle.head_spec.specs.declared.Head.{Head}
use Rattle.head_spec.specs.declared.Closed.{Closed}
use Rattle.head_spec.specs.Record.{entries_by}
use Rattle.head_spec.specs.Seats.{confession_seat, is_last, next_seat}
use Rattle.head_spec.specs.Calls.{closed_collection, closed_phase, closing, settling_of, end_settled, end_by, is_last_round, end_round}
use Rattle.head_spec.proofs.Proper.{ProperKept, ProperSeat, ProperHead, first_round, no_entries_lem, no_entry, proper_opened}
use Rattle.head_spec.proofs.Hearing.{Fresh}
use Rattle.head_spec.proofs.Range.{kept_proper, entries_positions}

-- what is settled from what was heard
abbrev pub settled_by : Head → Kept
settled_by h =
    let E = entries_by h.seat.family h in
    kept (rounding h.seat.phase) ((rule_of h.seat.family h.seat.f).trim (nulls h.seat.n E)) (ordered h.seat.n E)

-- not more nulls among the entries than are taken
abbrev pub enough_trusted : Head → Bool
enough_trusted h = enough h.seat.n (rule_of h.seat.family h.seat.f) (entries_by h.seat.family h)

-- what the end of a phase settles, by the family that the seat names
pub settles_by : (h : Head) {K : Family} → h.seat.family ≡ K
    → settling (rounding h.seat.phase) h.seat.n (rule_of K h.seat.f) (entries_by K h) ≡ settling_of h
settles_by h e = ap (λ (k : Family). settling (rounding h.seat.phase) h.seat.n (rule_of k h.seat.f) (entries_by k h)) (sym e)

settling_is : (h : Head) {b : Bool} → enough_trusted h ≡ b → settling_of h ≡ cond b (Ok (settled_by h)) (Err refusal.too_few_trusted)
unfolding settling
settling_is h e = ap (λ (x : Bool). cond x (Ok (settled_by h)) (Err refusal.too_few_trusted)) e

module _ (h : Head) (runs : h.seat.ended ≡ false) where
  pub ends_collection : is_last_round h.seat ≡ false → end_round h ≡ closing Closed.Listed (closed_collection h)
  unfolding end_round
  ends_collection r = rw (runs, r)

  module _ (confession : is_last_round h.seat ≡ true) where
    pub ends_last : end_round h ≡ end_settled (settling_of h) h
    unfolding end_round
    ends_last = rw (runs, confession)

    pub ends_phase_lem : enough_trusted h ≡ true → end_round h ≡ closing (Closed.Settled (settled_by h)) (closed_phase h (settled_by h))
    ends_phase_lem e = ends_last ∙ ap (λ (s : Settled). end_settled s h) (settling_is h e)

    pub too_few_trusted : enough_trusted h ≡ false → end_round h ≡ closing (Closed.Refused refusal.too_few_trusted) h
    too_few_trusted e = ends_last ∙ ap (λ (s : Settled). end_settled s h) (settling_is h e)

-- the new position is the midpoint
pub settled_midpoint : (h : Head) → (settled_by h).position ≡ midpoint (rounding h.seat.phase) h.seat.n (rule_of h.seat.family h.seat.f) (entries_by h.seat.family h)
unfolding midpoint
settled_midpoint h = refl

-- ---- what is answered, and what is held

abbrev pub Answers : Closed → Head → Head → Type 0
Answers (Closed.Refused c) h h' = h' ≡ h
Answers Closed.Listed h h' = h' ≡ closed_collection h
Answers (Closed.Settled k) h h' = h' ≡ closed_phase h k

pub answers : (h : Head) → Answers (end_round h).closed h (end_round h).head
unfolding end_round
answers h = go h.seat.ended (is_last_round h.seat)
  where
    settles : (s : Settled) → Answers (end_settled s h).closed h (end_settled s h).head
    settles (Err c) = refl
    settles (Ok k) = refl

    go : (b r : Bool) → let a = cond b (closing (Closed.Refused refusal.run_has_ended) h) (end_by r h) in Answers a.closed h a.head
    go true r = refl
    go false false = refl
    go false true = settles (settling_of h)

-- ---- a proper record stays proper, and a round that is ended opens the next

-- a round that is not the last of its phase is the collection round of a phase of two rounds
pub not_last : (K : Family) (r : ℕ) → ends_with K r ≡ false → (K ≡ TwoRounds) × (r ≡ 0)
not_last TwoRounds zero e = (refl, refl)
not_last TwoRounds (suc r) e = absurd (true≢false e)
not_last OneRound r e = absurd (true≢false e)

proper_confession : {s : Seat} → is_last_round s ≡ false → ProperSeat s → ProperSeat (confession_seat s)
proper_confession {s} c P =
    record {
      size = P.size;
      number = P.number;
      from_first = P.from_first;
      to_last = P.to_last;
      round = rw (not_last s.family s.round c).0 (omega arith);
      position = P.position;
      holds = λ o r. absurd (omega arith);
      kept = P.kept;
      since = P.since;
    }

proper_next : {s : Seat} (k : Kept) → ProperSeat s → ProperKept s.f k → ProperSeat (next_seat s k)
proper_next {s} k P K =
    let (first, last, round) = times (is_last s) refl in
    record {
      size = P.size;
      number = P.number;
      from_first = first;
      to_last = last;
      round = round;
      position = K.position;
      holds = λ o r t q. not_null q refl;
      kept = K;
      since = omega arith;
    }
  where
    times : (b : Bool) → is_last s ≡ b → let p = cond b s.phase (s.phase + 1) in (1 ≤ p) × (p ≤ 65535) × (cond b s.round 0 < rounds_of s.family)
    times true e = (P.from_first, P.to_last, P.round)
    times false e = let more = leb-false 65535 s.phase e in (omega arith, omega arith, first_round s.family)

module _ (h : Head) (P : ProperHead h) where
  pub proper_collection : is_last_round h.seat ≡ false → ProperHead (closed_collection h)
  unfolding closed_collection
  proper_collection c = proper_opened (proper_confession c P.seat) P.list (λ r. absurd (omega arith))

  pub proper_phase : (k : Kept) → ProperKept h.seat.f k → ProperHead (closed_phase h k)
  unfolding closed_phase
  proper_phase k K = proper_opened (proper_next k P.seat K) (no_entries_lem h.seat.n) (λ r. no_entry)

  pub settled_proper : ProperKept h.seat.f (settled_by h)
  settled_proper =
      kept_proper h.seat.family (rounding h.seat.phase) h.seat.n h.seat.f _ (entries_by h.seat.family h) (rounding_le h.seat.phase)
      (entries_positions h P h.seat.family)

  pub proper_end : ProperHead (end_round h).head
  unfolding end_round settling
  proper_end = go h.seat.ended (is_last_round h.seat) refl
    where
      settles : (c : Bool) → ProperHead (end_settled (cond c (Ok (settled_by h)) (Err refusal.too_few_trusted)) h).head
      settles true = proper_phase (settled_by h) settled_proper
      settles false = P

      go : (b r : Bool) → is_last_round h.seat ≡ r → ProperHead (cond b (closing (Closed.Refused refusal.run_has_ended) h) (end_by r h)).head
      go true r c = P
      go false false c = proper_collection c
      go false true c = settles (enough_trusted h)

  pub fresh_collection : is_last_round h.seat ≡ false → Fresh (closed_collection h)
  unfolding closed_collection
  fresh_collection c = record { proper = proper_collection c; runs = refl; unheard = refl }

  pub fresh_phase : h.seat.phase < 65535 → Fresh (closed_phase h (settled_by h))
  unfolding closed_phase
  fresh_phase l =
      let proper = proper_phase (settled_by h) settled_proper in
      record { proper = proper; runs = lt-leb 65535 h.seat.phase l; unheard = refl }
