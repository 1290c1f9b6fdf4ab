-- After start, restart, closing and adopting a block is the record that the call makes of the one before, as `Hears` says it of hearing. So C may keep a head
-- all shift. Of closing and adopting this is shown for a proper record, as all calls make them: its numbers fit their words.
use Rattle.std.specs.Prelude.{None, Some}
use mathlib.Core.Path.{◌≡◌, refl, sym, ◌∙◌}
use mathlib.Core.Bool.{Bool, true, false, not, cond, and-true, true≢false}
use mathlib.Core.List.{List}
use Prim.Native.Nat.{ℕ, zero, suc, ◌+◌, ◌<◌}
use native.Mathlib.Omega.{arith}
use native.Mathlib.Decide.{dec_lt}
use lib.ListN.{get_or}
use lib.IntN.{ℤ, pos, negsuc}
use borrow.Author.Tests.{leb-true, leb-false, eqb-true}
use Rattle.terms.specs.Refusals as refusal
use Rattle.terms.specs.Refusals.{check}
use Rattle.terms.specs.Positions.{is_position, eq_z}
use Rattle.terms.specs.Entry.{Entry}
use Rattle.terms.specs.declared.Family.{Family}
use Rattle.terms.specs.declared.Table.{Table}
use Rattle.marks.specs.Marks.{bit_of}
use Rattle.entries.specs.Entries.{fits}
use Rattle.convergence.proofs.Demand3.{size_large}
use Rattle.frame_spec.specs.Said.{collected}
use Rattle.frame_spec.specs.Proper.{ProperTable, Proper}
use Rattle.settle_midpoint.specs.declared.Kept.{Kept}
use Rattle.head_spec.specs.Kept.{LastKept, Offer}
use Rattle.head_spec.specs.declared.Seat.{Seat}
use Rattle.head_spec.specs.declared.Head.{Head}
use Rattle.head_spec.specs.declared.Closed.{Closed}
use Rattle.head_spec.specs.Record.{no_entries, opened}
use Rattle.head_spec.specs.Seats.{first_seat, healed_seat, confession_seat, is_last, next_seat}
use Rattle.head_spec.specs.Calls.{answer, start_refusal, started, start, restart_refusal, restarted, restart}
use Rattle.head_spec.specs.Calls.{start_listener_refusal, started_listener, start_listener, restart_listener_refusal, restart_listener}
use Rattle.head_spec.specs.Calls.{closed_collection, closed_phase, close, adopt}
use Rattle.head_spec.proofs.Proper.{ProperLast, ProperSeat, ProperHead, rounds_few, number_small, no_entries_lem, proper_started, proper_restarted, proper_started_listener, proper_restarted_listener}
use Rattle.head_spec.proofs.RoundClose.{Closes, closes, proper_close}
use Rattle.head_c.specs.Blocks.{IsBlock, head_of, with_head, with_answer, offer_of, with_closing}
use Rattle.head_c.proofs.Blocks.{Fits32, FitNumbers, FitEntry, FitLast, FitSeat, head_back}
use Rattle.head_c.proofs.Offers.{FitOffer, offer_fits, offer_apart}

-- ---- a proper record with nothing heard fits its words

position_fits : (v : ℤ) → is_position v ≡ true → Fits32 v
unfolding is_position
position_fits (pos n) h = omega (arith, leb-true n 1_000_000 h)
position_fits (negsuc n) h = omega (arith, leb-true n 999_999 (sym (and-true _) ∙ h))

number_fits : (b : Bool) (v : ℤ) → fits b v ≡ true → Fits32 v
unfolding eq_z
number_fits true v h = position_fits v h
number_fits false (pos n) h = omega (arith, eqb-true n 0 h)
number_fits false (negsuc n) h = absurd (true≢false (sym h))

table_fits : (n : ℕ) (t : Table) → ProperTable n t → FitNumbers t.entries
table_fits n t P = record { long = P.long; each = λ j l. go j (dec_lt j n) }
  where
    go : (j : ℕ) → Dec (j < n) → Fits32 (get_or t.entries j (pos 0))
    go j (yes l) = number_fits (bit_of t.marks j) _ (P.fit j l)
    go j (no l) = rw (P.none j (omega arith)) (omega arith)

entry_fits : (n : ℕ) (e : Entry) → Proper n (collected e) → FitEntry e
entry_fits n None P = tt
entry_fits n (Some v) P = position_fits v P

pub last_fits : (f : ℕ) (x : LastKept) → f < 256 → ProperLast f x → FitLast x
last_fits f None l P = tt
last_fits f (Some k) l P =
    (position_fits k.low P.low, position_fits k.high P.high, omega (arith, P.trim), position_fits k.position P.position)

pub seat_fits : (s : Seat) → ProperSeat s → FitSeat s
seat_fits s P =
    let most = P.size.most in
    let f = size_large s.family s.n s.f P.size.limit in
    record {
      n = omega arith;
      f = omega arith;
      number = omega (arith, number_small P);
      phase = omega (arith, P.to_last);
      round = omega (arith, P.round, rounds_few s.family);
      position = entry_fits s.n s.position P.position;
      kept = last_fits s.f s.kept (omega arith) P.kept;
      since = omega (arith, P.since);
    }

-- what a proper seat is after a phase that ends with an offer whose numbers fit
next_fits : (s : Seat) (k : Kept) → ProperSeat s → FitLast (Some k) → FitSeat (next_seat s k)
next_fits s k P F =
    let S = seat_fits s P in
    let (phase, round) = times (is_last s) refl in
    record { n = S.n; f = S.f; number = S.number; phase = phase; round = round; position = F.3; kept = F; since = omega arith }
  where
    times : (b : Bool) → is_last s ≡ b → (cond b s.phase (s.phase + 1) < 65536) × (cond b s.round 0 < 256)
    times true e = (omega (arith, P.to_last), (seat_fits s P).round)
    times false e = (omega (arith, leb-false 65535 s.phase e), omega arith)

-- ---- the calls

module _ (w : List ℕ) (block : IsBlock w) where
  put_back : (s : Seat) (t : Table) → ProperHead (opened s t) → head_of (with_head (opened s t) w) ≡ opened s t
  put_back s t P = head_back s t w block (seat_fits s P.seat) (table_fits s.n t P.list)

  -- a call that makes a proper record with nothing heard, unless it is refused
  after_answer : (c : ℕ) (s : Seat) → (c ≡ 0 → ProperHead (opened s no_entries))
      → let a = answer c (opened s no_entries) (head_of w) in head_of (with_answer w a) ≡ a.head
  unfolding with_answer
  after_answer zero s P = put_back s no_entries (P refl)
  after_answer (suc c) s P = refl

  pub after_start : (K : Family) (n f i : ℕ) (v : ℤ) → head_of (with_answer w (start (head_of w) K n f i v)) ≡ (start (head_of w) K n f i v).head
  unfolding start started
  after_start K n f i v = after_answer (start_refusal K n f i v) (first_seat K n f i (Some v)) (proper_started K n f i v)

  pub after_restart : (K : Family) (n f i p r : ℕ) → head_of (with_answer w (restart (head_of w) K n f i p r)) ≡ (restart (head_of w) K n f i p r).head
  unfolding restart restarted
  after_restart K n f i p r = after_answer (restart_refusal K n f i p r) (healed_seat K n f i p r) (proper_restarted K n f i p r)

  pub after_start_listener : (K : Family) (n f i : ℕ) → head_of (with_answer w (start_listener (head_of w) K n f i)) ≡ (start_listener (head_of w) K n f i).head
  unfolding start_listener started_listener
  after_start_listener K n f i = after_answer (start_listener_refusal K n f i) (first_seat K n f i None) (proper_started_listener K n f i)

  pub after_restart_listener : (K : Family) (n f i p r : ℕ) → head_of (with_answer w (restart_listener (head_of w) K n f i p r)) ≡ (restart_listener (head_of w) K n f i p r).head
  unfolding restart_listener restarted
  after_restart_listener K n f i p r = after_answer (restart_listener_refusal K n f i p r) (healed_seat K n f i p r) (proper_restarted_listener K n f i p r)

  pub after_close : ProperHead (head_of w) → head_of (with_closing (close (head_of w)).closed (close (head_of w)).head w) ≡ (close (head_of w)).head
  unfolding closed_collection
  after_close P = go (close h).closed (close h).head (closes h) (proper_close h P)
    where
      h : Head
      h = head_of w

      go : (c : Closed) (h' : Head) → Closes c h h' → ProperHead h' → head_of (with_closing c h' w) ≡ h'
      go (Closed.Refused c) h' e Q = sym e.0
      go Closed.Listed h' e Q = rw e.0 (put_back (confession_seat h.seat) h.list (rw e.0 at Q))
      go (Closed.Settled k) h' e Q = offer_apart k w block ∙ sym e.0

  -- whatever words stand for the offer
  pub after_adopt : ProperHead (head_of w) → let a = adopt (head_of w) (offer_of w) in head_of (with_answer w a) ≡ a.head
  unfolding with_answer adopt closed_phase
  after_adopt P = go (offer_of w) (offer_fits w)
    where
      h : Head
      h = head_of w

      ends : (b : Bool) (k : Kept) → FitOffer (Some k)
          → let a = answer (check (not b) refusal.run_has_ended 0) (opened (next_seat h.seat k) no_entries) h in head_of (with_answer w a) ≡ a.head
      ends true k F = refl
      ends false k F =
          let s = next_seat h.seat k in
          head_back s no_entries w block (next_fits h.seat k P.seat F) (table_fits h.seat.n no_entries (no_entries_lem h.seat.n))

      go : (o : Offer) → FitOffer o → let a = adopt h o in head_of (with_answer w a) ≡ a.head
      go None F = refl
      go (Some k) F = ends h.seat.ended k F
