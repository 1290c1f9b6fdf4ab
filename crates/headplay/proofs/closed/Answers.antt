-- A closing that settles makes the offer.
use mathlib.Core.Path.{◌≡◌}
use Prim.Native.Nat.{ℕ}
use Rattle.head_spec.specs.declared.Head.{Head}
use Rattle.head_spec.specs.declared.Closing.{Closing}
use Rattle.head_spec.specs.Kept.{Offer}
use Rattle.head_spec.specs.Calls.{close}
use Rattle.head_spec.specs.Offers.{offered}
use Rattle.head_lent.specs.Answers.{closed_number}
use Rattle.headplay.specs.declared.Outcome.{Outcome}
use Rattle.headplay.specs.Script.{closed}
use Rattle.headplay.proofs.closed.Goals as goal

is_closed : (h : Head) (o : Offer) {n : ℕ} {k : Closing} {q : Offer} → k ≡ close h → n ≡ closed_number k.closed → q ≡ offered k.closed o
    → ◌≡◌ {A = Outcome} (record { number = n; head = k.head; offer = q }) (closed h o)
is_closed h o a b d = rw (d, b, a)

pub returns : goal.returns
returns c = is_closed _ _ c.close-out.ensures c.closed_number.ensures c.offered.ensures
