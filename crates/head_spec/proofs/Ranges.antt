-- A head holds the kept range that was passed on last: only a phase end puts one there, and it puts the one that it answers. The position lies in
-- it, since half the sum of the lowest and the highest kept lies between them. Nothing else puts a position in a listener's record.
use Rattle.std.specs.Prelude.{None, Some, Ok, Err}
use mathlib.Core.Path.{◌≡◌, refl, ap, sym, ◌∙◌}
use mathlib.Core.Bool.{Bool, true, false, cond, true≢false}
use Prim.Native.Nat.{ℕ, ◌≤◌}
use native.Mathlib.Omega.{arith}
use borrow.Author.Tests.{leb-true}
use Rattle.terms.specs.Refusals as refusal
use Rattle.terms.specs.Sizes.{is_listener}
use Rattle.convergence.specs.Settling.{nulls, rule_of, midpoint, enough}
use Rattle.terms.specs.Positions.{rounding}
use Rattle.convergence.proofs.Demand3.{rounding_le, keeps_one}
use Rattle.convergence.proofs.Kept.{in_kept}
use Rattle.settle_midpoint.specs.Answers.{settling}
use Rattle.head_spec.specs.Kept.{LastKept}
use Rattle.head_spec.specs.declared.Seat.{Seat}
use Rattle.head_spec.specs.declared.Head.{Head}
use Rattle.head_spec.specs.declared.Closed.{Closed}
use Rattle.head_spec.specs.Record.{entries_by}
use Rattle.head_spec.specs.Calls.{started, restarted, started_listener, closed_collection, closed_phase, closing, end_settled, end_by, is_last_round, end_round}
use Rattle.head_spec.specs.Demand2.{Reachable}
use Rattle.head_spec.specs.Demand2 as reachable
use Rattle.head_spec.specs.Ranges.{passing, Passed, HoldsPassed, KeptInRange, PassedInRange, ListenerHoldsNone}
use Rattle.head_spec.specs.Ranges as passed
use Rattle.head_spec.proofs.Proper.{ProperHead, started_head}
use Rattle.head_spec.proofs.Taking.{hear_keeps}
use Rattle.head_spec.proofs.RoundEnd.{settled_by, enough_trusted, Answers, answers}
use Rattle.head_spec.proofs.Demand2.{demand_2}

-- ---- which range is held

held_ending : (c : Closed) (h h' : Head) (x : LastKept) → Answers c h h' → h.seat.kept ≡ x → h'.seat.kept ≡ passing c x
unfolding closed_collection closed_phase
held_ending (Closed.Refused c) h h' x a e = ap (λ (y : Head). y.seat.kept) a ∙ e
held_ending Closed.Listed h h' x a e = ap (λ (y : Head). y.seat.kept) a ∙ e
held_ending (Closed.Settled k) h h' x a e = ap (λ (y : Head). y.seat.kept) a

pub holds_passed : HoldsPassed
unfolding started restarted started_listener
holds_passed h x (passed.starts K n f i v e) = refl
holds_passed h x (passed.restarts K n f i p r e) = refl
holds_passed h x (passed.listens K n f i e) = refl
holds_passed h x (passed.listens_again K n f i p r e) = refl
holds_passed h x (passed.hears {h = y} k s bytes P) = rw (hear_keeps y k s) (holds_passed y x P)
holds_passed h x (passed.ends {h = y} {x = z} P) = held_ending (end_round y).closed y (end_round y).head z (answers y) (holds_passed y z P)

-- ---- the position lies in it

pub reached : {h : Head} {x : LastKept} → Passed h x → Reachable h
reached (passed.starts K n f i v e) = reachable.starts K n f i v e
reached (passed.restarts K n f i p r e) = reachable.restarts K n f i p r e
reached (passed.listens K n f i e) = reachable.listens K n f i e
reached (passed.listens_again K n f i p r e) = reachable.listens_again K n f i p r e
reached (passed.hears k s bytes P) = reachable.hears k s bytes (reached P)
reached (passed.ends P) = reachable.ends (reached P)

abbrev Sound : LastKept → Type 0
Sound None = Unit {0}
Sound (Some k) = KeptInRange k

module _ (h : Head) (P : ProperHead h) where
  settled_sound : enough_trusted h ≡ true → KeptInRange (settled_by h)
  unfolding enough midpoint
  settled_sound e =
      let K = h.seat.family in
      let E = entries_by K h in
      let few : nulls h.seat.n E ≤ (rule_of K h.seat.f).most = leb-true _ _ e in
      let some = keeps_one K h.seat.n h.seat.f P.seat.size.limit E few in
      let (above, below) = in_kept h.seat.n (rule_of K h.seat.f) E some (rounding h.seat.phase) (rounding_le h.seat.phase) in
      record { above = above; below = below }

  ended_sound : Sound h.seat.kept → Sound (end_round h).head.seat.kept
  unfolding end_round settling closed_collection closed_phase
  ended_sound s = go h.seat.ended (is_last_round h.seat)
    where
      settles : (c : Bool) → enough_trusted h ≡ c → Sound (end_settled (cond c (Ok (settled_by h)) (Err refusal.too_few_trusted)) h).head.seat.kept
      settles true e = settled_sound e
      settles false e = s

      go : (b r : Bool) → Sound (cond b (closing (Closed.Refused refusal.run_has_ended) h) (end_by r h)).head.seat.kept
      go true r = s
      go false false = s
      go false true = settles (enough_trusted h) refl

sound : {h : Head} {x : LastKept} → Passed h x → Sound h.seat.kept
unfolding started restarted started_listener
sound (passed.starts K n f i v e) = tt
sound (passed.restarts K n f i p r e) = tt
sound (passed.listens K n f i e) = tt
sound (passed.listens_again K n f i p r e) = tt
sound (passed.hears {h = x} k s bytes P) = rw (hear_keeps x k s) (sound P)
sound (passed.ends {h = x} P) = ended_sound x (demand_2.proper x (reached P)) (sound P)

pub passed_in_range : PassedInRange
passed_in_range h k P = rw (holds_passed h (Some k) P) at (sound P)

-- ---- a listener's first position

-- what is to be shown of a seat
abbrev HoldsNone : Seat → Type 0
HoldsNone s = is_listener s.number ≡ true → s.position ≡ None

none_ending : (c : Closed) (h h' : Head) (x : LastKept) → Answers c h h' → passing c x ≡ None → (x ≡ None → HoldsNone h.seat) → HoldsNone h'.seat
unfolding closed_collection
none_ending (Closed.Refused c) h h' x a e none = rw a (none e)
none_ending Closed.Listed h h' x a e none = rw a (none e)
none_ending (Closed.Settled k) h h' x a e none = let z : ◌≡◌ {A = ℕ} 0 1 = cc in absurd (omega arith)

none_held : {h : Head} {x : LastKept} → Passed h x → x ≡ None → HoldsNone h.seat
unfolding started restarted started_listener
none_held (passed.starts K n f i v r) e = λ l. absurd (true≢false (sym l ∙ started_head K n f i v r))
none_held (passed.restarts K n f i p r c) e = λ l. refl
none_held (passed.listens K n f i c) e = λ l. refl
none_held (passed.listens_again K n f i p r c) e = λ l. refl
none_held (passed.hears {h = y} k s bytes P) e = rw (hear_keeps y k s) (none_held P e)
none_held (passed.ends {h = y} {x = z} P) e = none_ending (end_round y).closed y (end_round y).head z (answers y) e (λ q. none_held P q)

pub listener_holds_none : ListenerHoldsNone
listener_holds_none h P = none_held P refl
