-- The reading of a head follows what is adopted: only an adoption puts a kept range into the record, and what was kept are positions.
use Rattle.std.specs.Prelude.{None, Some}
use mathlib.Core.Path.{◌≡◌, refl, ap, ◌∙◌}
use mathlib.Core.Bool.{true}
use Prim.Native.Nat.{ℕ, zero, suc}
use native.Mathlib.Omega.{arith}
use lib.IntN.{ℤ}
use Rattle.terms.specs.Positions.{is_position}
use Rattle.head_spec.specs.Kept.{LastKept}
use Rattle.head_spec.specs.declared.Seat.{Seat}
use Rattle.head_spec.specs.declared.Head.{Head}
use Rattle.head_spec.specs.declared.Closed.{Closed}
use Rattle.head_spec.specs.Proper.{ProperLast}
use Rattle.head_spec.specs.Calls.{started, restarted, started_listener, answer, closed_collection, closed_phase, close, adopt_refusal, adopted, adopt}
use Rattle.head_spec.proofs.Taking.{hear_keeps}
use Rattle.head_spec.proofs.RoundClose.{Closes, closes}
use Rattle.head_spec.proofs.Offers.{offering_reached}
use Rattle.head_spec.proofs.Ranges.{holds_passed}
use Rattle.head_spec.proofs.Demand2.{demand_2}
use Rattle.reading.specs.declared.Reading.{Reading}
use Rattle.reading.specs.Readings.{kept_reading, reading_between, reading_of, head_reading}
use Rattle.reading.specs.Heads.{FollowsAdoption, ReadsAdopted, ReadingHolds}

-- ---- of any record

-- closing leaves what the head holds of its last phase end
closing_keeps : (c : Closed) (h h' : Head) → Closes c h h' → h'.seat.kept ≡ h.seat.kept
unfolding closed_collection
closing_keeps (Closed.Refused c) h h' e = ap (λ (y : Head). y.seat.kept) e.0
closing_keeps Closed.Listed h h' e = ap (λ (y : Head). y.seat.kept) e.0
closing_keeps (Closed.Settled k) h h' e = ap (λ (y : Head). y.seat.kept) e.0

-- what a call answers, by its number
accepted : (c : ℕ) (new old : Head) → (answer c new old).refusal ≡ 0 → (answer c new old).head ≡ new
accepted zero new old e = refl
accepted (suc c) new old e = absurd (omega arith)

stays : (c d : ℕ) (new old : Head) → (answer c new old).refusal ≡ suc d → (answer c new old).head ≡ old
stays zero d new old e = absurd (omega arith)
stays (suc c) d new old e = refl

pub follows_adoption : FollowsAdoption
unfolding started restarted started_listener closed_phase adopt
follows_adoption =
    record {
      started = λ K n f i v. refl;
      restarted = λ K n f i p r. refl;
      listening = λ K n f i. refl;
      heard = λ h k s. ap (λ (x : Seat). reading_of x.kept) (hear_keeps h k s);
      closed = λ h. ap reading_of (closing_keeps (close h).closed h (close h).head (closes h));
      adopted = λ h k e. ap head_reading (accepted (adopt_refusal h (Some k)) (closed_phase h k) h e);
      refused = λ h o c e. ap head_reading (stays (adopt_refusal h o) c (adopted h o) h e);
    }

-- ---- of a record that calls can reach

kept_known : (low high : ℤ) → is_position low ≡ true → is_position high ≡ true → reading_between low high ≡ kept_reading low high
unfolding reading_between
kept_known low high p q = rw (p, q)

reads : (f : ℕ) (x : LastKept) → ProperLast f x → ReadsAdopted x (reading_of x)
reads f None P = refl
reads f (Some k) P = kept_known k.low k.high P.low P.high

reads_as : (x : LastKept) {r s : Reading} → r ≡ s → ReadsAdopted x s → ReadsAdopted x r
reads_as None e a = e ∙ a
reads_as (Some k) e a = e ∙ a

pub reading_holds : ReadingHolds
reading_holds h o x R =
    let (reached, passed) = offering_reached h o x R in
    let e = holds_passed h x passed in
    reads_as x (ap reading_of e) (reads h.seat.f x (rw e at (demand_2.proper h reached).seat.kept))
