-- The offer beside a head. Closing answers what the end of the round would and leaves the record, and adopting does the rest; so the two make the old closing.
-- An offer stays right: an accepted frame ends it, and a refused one leaves the record that it was made from.
use Rattle.std.specs.Prelude.{None, Some}
use mathlib.Core.Path.{◌≡◌, ap, sym, ◌∙◌}
use Prim.Native.Nat.{ℕ, zero, suc}
use native.Mathlib.Omega.{arith}
use Rattle.settle_midpoint.specs.declared.Kept.{Kept}
use Rattle.head_spec.specs.Kept.{LastKept, Offer}
use Rattle.head_spec.specs.declared.Head.{Head}
use Rattle.head_spec.specs.declared.Answer.{Answer}
use Rattle.head_spec.specs.declared.Closed.{Closed}
use Rattle.head_spec.specs.declared.Closing.{Closing}
use Rattle.head_spec.specs.Calls.{answer, hear_refusal, taken, said_to, hear, closing, closed_collection, closed_phase, end_round, close, adopt}
use Rattle.head_spec.specs.Ranges.{Passed}
use Rattle.head_spec.specs.Ranges as passed
use Rattle.head_spec.specs.Offers.{lapsed, offered, then_adopt, OfferThenAdopt, Offering, OfferHolds, OfferingReached}
use Rattle.head_spec.specs.Offers as offering
use Rattle.head_spec.proofs.Stops.{adopts_offer}
use Rattle.head_spec.proofs.RoundClose.{Stands, Closes, closes}
use Rattle.head_spec.proofs.Ranges.{reached}

-- ---- offering and then adopting

-- adopting an offer that stands makes the record that the phase end makes
adopted_head : (h : Head) (k : Kept) → Stands h k → (adopt h (Some k)).head ≡ closed_phase h k
adopted_head h k s = ap (λ (a : Answer). a.head) (adopts_offer h k s.runs)

then_adopts : (c : Closed) (h h' : Head) → Closes c h h' → then_adopt c h' ≡ end_round h
then_adopts (Closed.Refused c) h h' e = rw (e.0, e.1)
then_adopts Closed.Listed h h' e = rw (e.0, e.1)
then_adopts (Closed.Settled k) h h' e = rw (e.0, e.1.ends, adopted_head h k e.1)

pub offer_then_adopt : OfferThenAdopt
offer_then_adopt h = then_adopts (close h).closed h (close h).head (closes h)

-- ---- an offer that stands is right

abbrev Right : Head → Offer → Type 0
Right h None = Unit {0}
Right h (Some k) = Stands h k

right_heard : (c : ℕ) (new h : Head) (o : Offer) → Right h o → Right (answer c new h).head (lapsed (answer c new h).refusal o)
right_heard zero new h o r = tt
right_heard (suc c) new h o r = r

-- no offer stands in a collection round
listed_unoffered : (h h' : Head) (o : Offer) → end_round h ≡ closing Closed.Listed (closed_collection h) → Right h o → Right h' o
listed_unoffered h h' None e r = tt
listed_unoffered h h' (Some k) e r =
    let q : Closed.Listed ≡ Closed.Settled k = ap (λ (a : Closing). a.closed) (sym e ∙ r.ends) in
    let z : ◌≡◌ {A = ℕ} 0 1 = cc in
    absurd (omega arith)

right_closed : (c : Closed) (h h' : Head) (o : Offer) → Closes c h h' → Right h o → Right h' (offered c o)
right_closed (Closed.Refused c) h h' o e r = rw e.0 r
right_closed Closed.Listed h h' o e r = listed_unoffered h h' o e.1 r
right_closed (Closed.Settled k) h h' o e r = rw e.0 e.1

right : {h : Head} {o : Offer} {x : LastKept} → Offering h o x → Right h o
unfolding hear
right (offering.starts K n f i v e) = tt
right (offering.restarts K n f i p r e) = tt
right (offering.listens K n f i e) = tt
right (offering.listens_again K n f i p r e) = tt
right (offering.hears {h = y} {o = o} k s bytes R) = right_heard (hear_refusal y k s) (taken y k (said_to y.seat k s)) y o (right R)
right (offering.closes {h = y} {o = o} R) = right_closed (close y).closed y (close y).head o (closes y) (right R)
right (offering.adopts R) = tt

pub offer_holds : OfferHolds
offer_holds h k x R = let s = right R in (s.ends, ap (λ (a : Answer). a.refusal) (adopts_offer h k s.runs))

-- ---- each record is one of document 01's

passed_closed : (c : Closed) (h h' : Head) (x : LastKept) → Closes c h h' → Passed h x → Passed h' x
passed_closed (Closed.Refused c) h h' x e P = rw e.0 P
passed_closed Closed.Listed h h' x e P = rw e.0 (rw e.1 at (passed.ends P))
passed_closed (Closed.Settled k) h h' x e P = rw e.0 P

passed_on : {h : Head} {o : Offer} {x : LastKept} → Offering h o x → Passed h x
passed_on (offering.starts K n f i v e) = passed.starts K n f i v e
passed_on (offering.restarts K n f i p r e) = passed.restarts K n f i p r e
passed_on (offering.listens K n f i e) = passed.listens K n f i e
passed_on (offering.listens_again K n f i p r e) = passed.listens_again K n f i p r e
passed_on (offering.hears k s bytes R) = passed.hears k s bytes (passed_on R)
passed_on (offering.closes {h = y} {x = x} R) = passed_closed (close y).closed y (close y).head x (closes y) (passed_on R)
passed_on (offering.adopts {h = y} {k = k} R) = let s = right R in rw (adopted_head y k s) (rw s.ends at (passed.ends (passed_on R)))

pub offering_reached : OfferingReached
offering_reached h o x R = let P = passed_on R in (reached P, P)
