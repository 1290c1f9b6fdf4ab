-- Closing a round. It ends a collection round. In the last round of a phase it answers what the end of the round would, and the record stays as it is.
use Rattle.std.specs.Prelude.{Ok, Err}
use mathlib.Core.Path.{◌≡◌, refl}
use mathlib.Core.Bool.{Bool, true, false, cond}
use Prim.Native.Nat.{ℕ}
use Rattle.terms.specs.Refusals as refusal
use Rattle.settle_midpoint.specs.Answers.{settling}
use Rattle.settle_midpoint.specs.declared.Kept.{Kept}
use Rattle.settle_midpoint.specs.Settled.{Settled}
use Rattle.head_spec.specs.declared.Head.{Head}
use Rattle.head_spec.specs.declared.Closed.{Closed}
use Rattle.head_spec.specs.declared.Closing.{Closing}
use Rattle.head_spec.specs.Calls.{closed_collection, closed_phase, closing, settling_of, end_settled, end_by, end_round, offer_settled, close_in, is_last_round, close}
use Rattle.head_spec.proofs.Proper.{ProperKept, ProperHead}
use Rattle.head_spec.proofs.RoundEnd.{settled_by, enough_trusted, proper_collection, settled_proper}

module _ (h : Head) (runs : h.seat.ended ≡ false) where
  pub closes_collection : is_last_round h.seat ≡ false → close h ≡ closing Closed.Listed (closed_collection h)
  unfolding close
  closes_collection r = rw (runs, r)

  pub closes_last : is_last_round h.seat ≡ true → close h ≡ offer_settled (settling_of h) h
  unfolding close
  closes_last r = rw (runs, r)

-- ---- what is answered, what is held then, and what the end of the round is

-- k is what the round settles now
pub record Stands (h : Head) (k : Kept) : Type 0 where
  pub runs : h.seat.ended ≡ false
  pub ends : end_round h ≡ closing (Closed.Settled k) (closed_phase h k)

-- of a closing of h that answers c and makes h'
abbrev pub Closes : Closed → Head → Head → Type 0
Closes (Closed.Refused c) h h' = (h' ≡ h) × (end_round h ≡ closing (Closed.Refused c) h)
Closes Closed.Listed h h' = (h' ≡ closed_collection h) × (end_round h ≡ closing Closed.Listed (closed_collection h))
Closes (Closed.Settled k) h h' = (h' ≡ h) × Stands h k

-- the end of the round, where its seat is known
end_by_lem : (h : Head) {b r : Bool} → h.seat.ended ≡ b → is_last_round h.seat ≡ r → end_round h ≡ cond b (closing (Closed.Refused refusal.run_has_ended) h) (end_by r h)
unfolding end_round
end_by_lem h e q = rw (e, q)

pub closes : (h : Head) → Closes (close h).closed h (close h).head
unfolding close
closes h = go h.seat.ended (is_last_round h.seat) refl refl
  where
    settles : (s : Settled) → h.seat.ended ≡ false → end_round h ≡ end_settled s h → Closes (offer_settled s h).closed h (offer_settled s h).head
    settles (Err c) runs e = (refl, e)
    settles (Ok k) runs e = (refl, record { runs = runs; ends = e })

    go : (b r : Bool) → h.seat.ended ≡ b → is_last_round h.seat ≡ r
        → let a = cond b (closing (Closed.Refused refusal.run_has_ended) h) (close_in r h) in Closes a.closed h a.head
    go true r e q = (refl, end_by_lem h e q)
    go false false e q = (refl, end_by_lem h e q)
    go false true e q = settles (settling_of h) e (end_by_lem h e q)

-- a closing that offers leaves the record
pub offer_stays : (h : Head) {k : Kept} → (close h).closed ≡ Closed.Settled k → (close h).head ≡ h
offer_stays h e = (rw e at (closes h)).0

-- ---- a proper record stays proper, and what it offers is proper

abbrev pub ProperClosed : ℕ → Closed → Type 0
ProperClosed f (Closed.Refused c) = Unit {0}
ProperClosed f Closed.Listed = Unit {0}
ProperClosed f (Closed.Settled k) = ProperKept f k

module _ (h : Head) (P : ProperHead h) where
  abbrev Kept-proper : Closing → Type 0
  Kept-proper a = ProperHead a.head × ProperClosed h.seat.f a.closed

  both : Kept-proper (close h)
  unfolding close settling
  both = go h.seat.ended (is_last_round h.seat) refl
    where
      settles : (c : Bool) → Kept-proper (offer_settled (cond c (Ok (settled_by h)) (Err refusal.too_few_trusted)) h)
      settles true = (P, settled_proper h P)
      settles false = (P, tt)

      go : (b r : Bool) → is_last_round h.seat ≡ r → Kept-proper (cond b (closing (Closed.Refused refusal.run_has_ended) h) (close_in r h))
      go true r c = (P, tt)
      go false false c = (proper_collection h P c, tt)
      go false true c = settles (enough_trusted h)

  pub proper_close : ProperHead (close h).head
  proper_close = both.0

  pub proper_closed : ProperClosed h.seat.f (close h).closed
  proper_closed = both.1
