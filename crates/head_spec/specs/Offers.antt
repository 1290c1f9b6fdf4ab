-- The offer (document 02, A8), which is kept outside the record: which call makes it, which ends it, and what it is worth while it stands.
-- proofs/Offers.antt proves it.
use Rattle.std.specs.Prelude.{◌≡◌, List, [], ◌∷◌, ℕ, ℤ, None, Some}
use Rattle.terms.specs.Refusals.{leaves}
use Rattle.terms.specs.declared.Family.{Family}
use Rattle.settle_midpoint.specs.declared.Kept.{Kept}
use Rattle.frame_spec.specs.Proper.{AllBytes}
use Rattle.head_spec.specs.Kept.{LastKept, Offer}
use Rattle.head_spec.specs.declared.Head.{Head}
use Rattle.head_spec.specs.declared.Closed.{Closed}
use Rattle.head_spec.specs.declared.Closing.{Closing}
use Rattle.head_spec.specs.Calls.{start_refusal, started, restart_refusal, restarted, start_listener_refusal, started_listener, restart_listener_refusal, hear, closing, closed_phase, end_round, close, adopt}
use Rattle.head_spec.specs.Demand2.{Reachable}
use Rattle.head_spec.specs.Ranges.{Passed}

-- ---- the offer after a call; c is the number that the call answers

-- a start, a restart, an accepted frame and an adoption end it; a refused one leaves it standing (Q66)
abbrev pub lapsed : ℕ → Offer → Offer
lapsed c o = leaves c None o

-- frames heard one after the other, with these answers (Q09)
unfoldable pub lapsed_by : List ℕ → Offer → Offer
lapsed_by [] o = o
lapsed_by (c ∷ cs) o = lapsed_by cs (lapsed c o)

-- closing the last round of a phase makes it; any other closing leaves it as it is (Q65, Q66)
abbrev pub offered : Closed → Offer → Offer
offered (Closed.Refused c) o = o
offered Closed.Listed o = o
offered (Closed.Settled k) o = Some k

-- ---- "Offering and then adopting equals the old closing": of any record

abbrev pub then_adopt : Closed → Head → Closing
then_adopt (Closed.Refused c) h = closing (Closed.Refused c) h
then_adopt Closed.Listed h = closing Closed.Listed h
then_adopt (Closed.Settled k) h = closing (Closed.Settled k) (adopt h (Some k)).head

-- closing and then adopting is the end of a round in one step (Q68)
abbrev pub OfferThenAdopt : Type 0
OfferThenAdopt = (h : Head) → then_adopt (close h).closed (close h).head ≡ end_round h

-- ---- and whatever is refused between the two calls

-- a record that calls can reach, its offer, and what its phase ends passed on last (document 02, A2)
pub data Offering : Head → Offer → LastKept → Type 0 where
  starts : (K : Family) (n f i : ℕ) (v : ℤ) → start_refusal K n f i v ≡ 0 → Offering (started K n f i v) None None
  restarts : (K : Family) (n f i p r : ℕ) → restart_refusal K n f i p r ≡ 0 → Offering (restarted K n f i p r) None None
  listens : (K : Family) (n f i : ℕ) → start_listener_refusal K n f i ≡ 0 → Offering (started_listener K n f i) None None
  listens_again : (K : Family) (n f i p r : ℕ) → restart_listener_refusal K n f i p r ≡ 0 → Offering (restarted K n f i p r) None None
  hears : {h : Head} {o : Offer} {x : LastKept} (k : ℕ) (s : List ℕ) → AllBytes s → Offering h o x
      → Offering (hear h k s).head (lapsed (hear h k s).refusal o) x
  closes : {h : Head} {o : Offer} {x : LastKept} → Offering h o x → Offering (close h).head (offered (close h).closed o) x
  adopts : {h : Head} {k : Kept} {x : LastKept} → Offering h (Some k) x
      → Offering (adopt h (Some k)).head None (Some k)

-- an offer that stands is what the round would settle now, and adopting it ends the phase with it (Q67)
abbrev pub OfferHolds : Type 0
OfferHolds =
    (h : Head) (k : Kept) (x : LastKept) → Offering h (Some k) x
    → (end_round h ≡ closing (Closed.Settled k) (closed_phase h k)) × ((adopt h (Some k)).refusal ≡ 0)

-- so every record that calls can reach is one of document 01's, and holds what was adopted last
abbrev pub OfferingReached : Type 0
OfferingReached = (h : Head) (o : Offer) (x : LastKept) → Offering h o x → Reachable h × Passed h x
