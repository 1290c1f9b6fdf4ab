-- Which kept range a head holds (document 02, A2): the one that its last phase end since the start or restart passed on, as that closing
-- answered it, or none. proofs/Ranges.antt proves it.
use Rattle.std.specs.Prelude.{◌≡◌, true, List, ℕ, ℤ, ◌≤ℤ◌, None, Some}
use Rattle.terms.specs.Sizes.{is_listener}
use Rattle.terms.specs.declared.Family.{Family}
use Rattle.settle_midpoint.specs.declared.Kept.{Kept}
use Rattle.frame_spec.specs.Proper.{AllBytes}
use Rattle.head_spec.specs.Kept.{LastKept}
use Rattle.head_spec.specs.declared.Head.{Head}
use Rattle.head_spec.specs.declared.Closed.{Closed}
use Rattle.head_spec.specs.Calls.{start_refusal, started, restart_refusal, restarted, start_listener_refusal, started_listener, restart_listener_refusal, hear, end_round}

-- what was passed on last, after a round's end that answered c; before it x was (Q10)
abbrev pub passing : Closed → LastKept → LastKept
passing (Closed.Refused c) x = x
passing Closed.Listed x = x
passing (Closed.Settled k) x = Some k

-- a record that calls can reach, and what was passed on last since it was started or restarted
pub data Passed : Head → LastKept → Type 0 where
  starts : (K : Family) (n f i : ℕ) (v : ℤ) → start_refusal K n f i v ≡ 0 → Passed (started K n f i v) None
  restarts : (K : Family) (n f i p r : ℕ) → restart_refusal K n f i p r ≡ 0 → Passed (restarted K n f i p r) None
  listens : (K : Family) (n f i : ℕ) → start_listener_refusal K n f i ≡ 0 → Passed (started_listener K n f i) None
  listens_again : (K : Family) (n f i p r : ℕ) → restart_listener_refusal K n f i p r ≡ 0 → Passed (restarted K n f i p r) None
  hears : {h : Head} {x : LastKept} (k : ℕ) (s : List ℕ) → AllBytes s → Passed h x → Passed (hear h k s).head x
  ends : {h : Head} {x : LastKept} → Passed h x → Passed (end_round h).head (passing (end_round h).closed x)

-- a record holds what was passed on last (Q11)
abbrev pub HoldsPassed : Type 0
HoldsPassed = (h : Head) (x : LastKept) → Passed h x → h.seat.kept ≡ x

-- what a range is worth: the position lies in it
pub record KeptInRange (k : Kept) : Type 0 where
  pub above : k.low ≤ℤ k.position
  pub below : k.position ≤ℤ k.high

abbrev pub PassedInRange : Type 0
PassedInRange = (h : Head) (k : Kept) → Passed h (Some k) → KeptInRange k

-- a listener "holds none before its first phase end" (document 02, A6): no position, while nothing was passed on
abbrev pub ListenerHoldsNone : Type 0
ListenerHoldsNone = (h : Head) → Passed h None → is_listener h.seat.number ≡ true → h.seat.position ≡ None
