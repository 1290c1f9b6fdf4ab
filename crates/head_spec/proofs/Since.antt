-- Only starting, restarting and adopting touch the count of phase ends, and it is the number of adoptions, up to 255.
use Rattle.std.specs.Prelude.{Some}
use mathlib.Core.Path.{◌≡◌, refl, ap, ◌∙◌}
use Prim.Native.Nat.{ℕ, zero, suc, ◌+◌, min}
use native.Mathlib.Omega.{arith}
use Rattle.settle_midpoint.specs.declared.Kept.{Kept}
use Rattle.head_spec.specs.declared.Seat.{Seat}
use Rattle.head_spec.specs.declared.Head.{Head}
use Rattle.head_spec.specs.declared.Closed.{Closed}
use Rattle.head_spec.specs.Seats.{most_counted}
use Rattle.head_spec.specs.Calls.{started, restarted, started_listener, answer, closed_collection, closed_phase, close, adopt_refusal, adopted, adopt}
use Rattle.head_spec.specs.Since.{CountStays, starts, restarts, listens, listens_again, hears, closes, adopts, CountHolds}
use Rattle.head_spec.proofs.Taking.{hear_keeps}
use Rattle.head_spec.proofs.RoundClose as round
use Rattle.head_spec.proofs.RoundClose.{Closes}

closing_keeps : (c : Closed) (h h' : Head) → Closes c h h' → h'.seat.since ≡ h.seat.since
unfolding closed_collection
closing_keeps (Closed.Refused c) h h' e = ap (λ (y : Head). y.seat.since) e.0
closing_keeps Closed.Listed h h' e = ap (λ (y : Head). y.seat.since) e.0
closing_keeps (Closed.Settled k) h h' e = ap (λ (y : Head). y.seat.since) e.0

accepted : (c : ℕ) (new old : Head) → (answer c new old).refusal ≡ 0 → (answer c new old).head ≡ new
accepted zero new old e = refl
accepted (suc c) new old e = absurd (omega arith)

stays : (c d : ℕ) (new old : Head) → (answer c new old).refusal ≡ suc d → (answer c new old).head ≡ old
stays zero d new old e = absurd (omega arith)
stays (suc c) d new old e = refl

pub count_stays : CountStays
unfolding adopt
count_stays =
    record {
      heard = λ h k s. ap (λ (x : Seat). x.since) (hear_keeps h k s);
      closed = λ h. closing_keeps (close h).closed h (close h).head (round.closes h);
      refused = λ h o c e. ap (λ (y : Head). y.seat.since) (stays (adopt_refusal h o) c (adopted h o) h e);
    }

min_suc : (x c : ℕ) → x ≡ min most_counted c → min most_counted (x + 1) ≡ min most_counted (c + 1)
min_suc x c e = omega (arith, e)

adopting : (h : Head) (k : Kept) → (adopt h (Some k)).refusal ≡ 0
    → (adopt h (Some k)).head.seat.since ≡ min most_counted (h.seat.since + 1)
unfolding adopt closed_phase
adopting h k e = ap (λ (y : Head). y.seat.since) (accepted (adopt_refusal h (Some k)) (closed_phase h k) h e)

pub count_holds : CountHolds
unfolding started restarted started_listener
count_holds _ _ _ (starts K n f i v e) = refl
count_holds _ _ _ (restarts K n f i p r e) = refl
count_holds _ _ _ (listens K n f i e) = refl
count_holds _ _ _ (listens_again K n f i p r e) = refl
count_holds _ _ _ (hears k s C) = count_stays.heard _ k s ∙ count_holds _ _ _ C
count_holds _ _ _ (closes C) = count_stays.closed _ ∙ count_holds _ _ _ C
count_holds _ _ _ (adopts C e) = adopting _ _ e ∙ min_suc _ _ (count_holds _ _ _ C)
