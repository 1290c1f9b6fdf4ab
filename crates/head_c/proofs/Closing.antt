-- Closing on the block itself, in the parts of the definition: refused, it stays as it was; a collection round is ended; in the last round of a phase it offers.
use Rattle.std.specs.Prelude.{Some, Ok, Err}
use mathlib.Core.Path.{◌≡◌, refl}
use mathlib.Core.Bool.{true, false}
use mathlib.Core.List.{List}
use Prim.Native.Nat.{ℕ}
use Rattle.terms.specs.Refusals as refusal
use Rattle.settle_midpoint.specs.declared.Kept.{Kept}
use Rattle.head_spec.specs.declared.Head.{Head}
use Rattle.head_spec.specs.declared.Closed.{Closed}
use Rattle.head_spec.specs.Kept.{Offer}
use Rattle.head_spec.specs.Calls.{closed_collection, settling_of, close_in, is_last_round, close}
use Rattle.head_spec.proofs.Stops.{ended_closes}
use Rattle.head_spec.proofs.RoundClose.{closes_collection, closes_last}
use Rattle.head_c.specs.Blocks.{with_head, with_offer}
use Rattle.head_c.specs.Steps.{BlockCloses}

pub refuses : (w : List ℕ) (h : Head) (n : ℕ) → Err n ≡ settling_of h → BlockCloses (close_in true h) w (Closed.Refused n) w
refuses w h n e = rw (← e) (refl, refl)

pub offers : (w : List ℕ) (h : Head) (k : Kept) {w' : List ℕ} → Ok k ≡ settling_of h → w' ≡ with_offer (Some k) w
    → BlockCloses (close_in true h) w (Closed.Settled k) w'
offers w h k e q = rw (← e) (refl, q)

module _ (w : List ℕ) (h : Head) where
  pub ended_stays : h.seat.ended ≡ true → BlockCloses (close h) w (Closed.Refused refusal.run_has_ended) w
  ended_stays e = rw (ended_closes h e) (refl, refl)

  pub lists : h.seat.ended ≡ false → is_last_round h.seat ≡ false → {w' : List ℕ} → w' ≡ with_head (closed_collection h) w → BlockCloses (close h) w Closed.Listed w'
  lists e z q = rw (closes_collection h e z) (refl, q)

  pub ends : h.seat.ended ≡ false → is_last_round h.seat ≡ true → {c : Closed} {w' : List ℕ} → BlockCloses (close_in true h) w c w' → BlockCloses (close h) w c w'
  ends e l p = rw (closes_last h e l) p
