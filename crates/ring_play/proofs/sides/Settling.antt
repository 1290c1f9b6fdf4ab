-- What a receiver hears are the positions that all hear, with what is planted where these have none. If the planted ones lie outside, it settles on the middle of
-- two positions that all hear.
use Rattle.std.specs.Prelude.{None}
use Rattle.std.proofs.Common.{◌≡◌, ℕ, ◌+◌, ◌-◌, ◌<◌, ◌≤◌, Bool, true, false, cond, List, length, get_or, ℤ, pos, ◌+ℤ◌, refl, ap, ◌∙◌, ap₂, arith}
use lib.ListN.{get_or-append}
use Rattle.terms.specs.Positions.{half, rounding}
use Rattle.terms.specs.Entry.{Entry}
use Rattle.terms.specs.declared.Table.{Table}
use Rattle.marks.specs.Marks.{bit_of}
use Rattle.entries.specs.Tables.{table_at, table_of}
use Rattle.entries.proofs.TableAt.{table_at_lem}
use Rattle.terms.specs.Counting.{Each}
use Rattle.convergence.specs.Settling.{ordered}
use Rattle.convergence.proofs.Order.{passes, length_ordered}
use Rattle.settle_midpoint.specs.Orders.{padded, order_of}
use Rattle.settle_midpoint.specs.declared.Order.{Order}
use Rattle.ring_play.specs.declared.Stage.{Stage}
use Rattle.ring_play.specs.declared.sides.Counts.{Counts}
use Rattle.ring_play.specs.Memory.{heads}
use Rattle.ring_play.specs.Inner.Collection.{heard_of, heard_with, Shared, position_from}
use Rattle.ring_play.specs.Inner.Sides.{planted_entry, SidesCounted, SidesDecide}
use Rattle.ring_play.proofs.sides.Counting.{counts_as}
use Rattle.ring_play.proofs.sides.Kept.{settled_inside}

padded_at : (l : List ℤ) (k : ℕ) → k < length l → get_or (padded l) k (pos 0) ≡ get_or l k (pos 0)
unfolding padded
padded_at l k h = get_or-append l _ (pos 0) k h

-- the order of 32 entries at most
pub order_small : (n : ℕ) (H : ℕ → Entry) {o : Order} → n ≤ 32 → o ≡ order_of (ordered n H) → o.len ≤ 32
order_small n H small e = omega (arith, length_ordered n H, ap (λ (o : Order). o.len) e)

module _ (s : Stage) {t : Table} (S : Shared s t) (plant : ℕ → ℕ → List ℕ) (i : ℕ) where
  abbrev heard : ℕ → Entry
  heard = table_at (table_of (heads s) (heard_with s S.entry plant i))

  abbrev l : List ℤ
  l = ordered (heads s) (table_at t)

  sent_at : Each (heads s) (λ j. table_at t j ≡ S.entry j)
  sent_at j h = ap (λ (x : Table). table_at x j) S.is ∙ table_at_lem (heads s) S.entry (omega arith) j h

  split : (q : ℤ → Bool) → Each (heads s) (λ j. passes q (heard j) ≡ passes q (table_at t j) + passes q (planted_entry s plant i j))
  unfolding heard_with planted_entry
  split q j h =
      rw (sent_at j h, table_at_lem (heads s) (heard_with s S.entry plant i) (omega arith) j h) (go (bit_of s.struck j) (S.none j))
    where
      go : (b : Bool) → (b ≡ true → S.entry j ≡ None)
          → passes q (cond b (heard_of s (plant j i) j) (S.entry j)) ≡ passes q (S.entry j) + passes q (cond b (heard_of s (plant j i) j) None)
      go true e = rw (e refl) (omega arith)
      go false e = omega arith

  pub settles_inside : {len : ℕ} {a : List ℤ} {c : Counts} {v : ℤ} → len ≡ length l → a ≡ padded l
      → SidesCounted (heads s) (planted_entry s plant i) (get_or a 0 (pos 0)) (get_or a (len - 1) (pos 0)) c → SidesDecide (heads s) s.f len c
      → v ≡ half (rounding s.phase) (get_or a (s.f - c.low) (pos 0) +ℤ get_or a (len - 1 - (s.f - c.high)) (pos 0)) → v ≡ position_from s heard
  unfolding position_from
  settles_inside {c = c} p q C D h =
      let E : SidesDecide (heads s) s.f (length l) c = rw p at D in
      let some = E.some in
      let B : SidesCounted (heads s) (planted_entry s plant i) (get_or l 0 (pos 0)) (get_or l (length l - 1) (pos 0)) c =
      counts_as (padded_at l 0 (omega arith)) (padded_at l (length l - 1) (omega arith)) (rw (p, q) at C) in
      rw (p, q) at h
      ∙ ap₂ (λ (x y : ℤ). half (rounding s.phase) (x +ℤ y)) (padded_at l (s.f - c.low) (omega arith)) (padded_at l (length l - 1 - (s.f - c.high)) (omega arith))
      ∙ settled_inside (heads s) s.f (table_at t) (planted_entry s plant i) heard split B E (rounding s.phase)
