-- Phases since the last strike (document 02, A10): the count of a record is the number of phase ends since the last round that marks it. A round that marks it leaves
-- the count to a restart, which clears it; the end of a phase adds one; nothing else touches it.
use mathlib.Core.Path.{◌≡◌, refl, ap, sym, ◌∙◌}
use mathlib.Core.Bool.{Bool, true, false, cond}
use mathlib.Core.Logic.{inl, inr}
use mathlib.Core.List.{List, [], ◌∷◌}
use Prim.Native.Nat.{ℕ, suc, ◌+◌, ◌≤◌, ◌<◌, min}
use native.Mathlib.Omega.{arith}
use borrow.Author.Tests.{lt-ltb, le-ltb}
use lib.Dec.{ltb}
use lib.ListN.{length}
use lib.IntN.{ℤ}
use Rattle.terms.specs.Positions.{is_position}
use Rattle.terms.specs.declared.Family.{Family}
use Rattle.terms.specs.Sizes.{ends_with}
use Rattle.marks.specs.Marks.{bit_of}
use Rattle.marks.proofs.Marks.{bit_none}
use Rattle.terms.specs.Counting.{Each, bit}
use Rattle.convergence.specs.Settling.{rule_of, enough}
use Rattle.head_spec.specs.declared.Seat.{Seat}
use Rattle.head_spec.specs.declared.Head.{Head}
use Rattle.head_spec.specs.Seats.{most_counted}
use Rattle.head_spec.specs.Record.{entries_by}
use Rattle.head_spec.specs.Calls.{started, started_listener, restarted, closed_collection, closed_phase}
use Rattle.head_spec.proofs.Proper.{Sized}
use Rattle.ring_spec.specs.Rounds.{Round, Ring, opened_at, closed_at, most_rounds, ends_phase, after_round, receivers, is_receiver, first_heads, ring_after, ends_since}
use Rattle.ring_spec.specs.Converges.{FewStruckIn, count_after, RingCounts}
use Rattle.ring_spec.proofs.Receivers.{Hears, listener_large, hears}
use Rattle.ring_spec.proofs.OneRound.{RingReady, heard_at, heard_seat}
use Rattle.ring_spec.proofs.Closings.{collection_closed, confession_closed}
use Rattle.ring_spec.proofs.Counts.{next_ends}
use Rattle.ring_spec.proofs.Demand3.{playable, within_sized}

-- the count of a record
abbrev since_of : Head → ℕ
since_of h = h.seat.since

min_suc : (x : ℕ) → min most_counted (min most_counted x + 1) ≡ min most_counted (x + 1)
min_suc x = omega arith

module _ (K : Family) (n f : ℕ) (R : Ring) (w : Round) (S : RingReady K n f R) (i : ℕ) (l : Hears n i) (q : bit_of w.struck i ≡ false)
    (calm : ends_with K R.round ≡ true → enough n (rule_of K f) (entries_by K (heard_at K n f R w i)) ≡ true) where
  -- what a round makes of it; b: it ends a phase
  round_since : (b : Bool) → ends_with K R.round ≡ b → (x : ℕ) → since_of (opened_at K n f R w i) ≡ min most_counted x → since_of (closed_at K n f R w i) ≡ min most_counted (x + bit b)
  unfolding closed_collection closed_phase
  round_since b c x e = go b c
    where
      heard : since_of (heard_at K n f R w i) ≡ min most_counted x
      heard = ap (λ (s : Seat). s.since) (heard_seat K n f R w S i l q) ∙ e

      go : (b : Bool) → ends_with K R.round ≡ b → since_of (closed_at K n f R w i) ≡ min most_counted (x + bit b)
      go false c = ap since_of (collection_closed K n f R w S i l q c) ∙ heard ∙ ap (min most_counted) (let z : x ≡ x + 0 = omega arith in z)
      go true c =
          ap since_of (confession_closed K n f R w S i l q c (calm c)) ∙ ap (λ (s : ℕ). min most_counted (s + 1)) heard ∙ min_suc x

-- ---- a run

module _ (K : Family) (n f : ℕ) (v : ℕ → ℤ) (S : Sized K n f) (range : Each n (λ i. is_position (v i) ≡ true)) (i : ℕ) (l : Hears n i) where
  abbrev R : List Round → Ring
  R = ring_after K n f v

  first_since : since_of (first_heads K n f v i) ≡ 0
  unfolding first_heads started started_listener
  first_since = go l
    where
      go : Hears n i → since_of (cond (ltb i 32) (started K n f i (v i)) (started_listener K n f i)) ≡ 0
      go (inl m) = rw (lt-ltb i 32 (omega (arith, S.most)))
      go (inr e) = rw (le-ltb i 32 (listener_large i e))

  -- the last round marks it
  marked_since : (ws : List Round) → bit_of (R ws).before i ≡ true → ends_since K i ws ≡ 0
  unfolding ring_after after_round ends_since
  marked_since [] q = refl
  marked_since (w ∷ ws) q = rw q

  -- as a round opens
  opened_since : (ws : List Round) (w : Round) → bit_of w.struck i ≡ false → (bit_of (R ws).before i ≡ false → since_of ((R ws).heads i) ≡ count_after K ws i)
      → since_of (opened_at K n f (R ws) w i) ≡ count_after K ws i
  unfolding opened_at restarted
  opened_since ws w q ih = rw q (go (bit_of (R ws).before i) refl)
    where
      go : (b : Bool) → bit_of (R ws).before i ≡ b → since_of (cond b (restarted K n f i (R ws).phase (R ws).round) ((R ws).heads i)) ≡ count_after K ws i
      go true e = rw (marked_since ws e)
      go false e = ih e

  -- each round finds the ring ready, and the receiver ends it
  abbrev pub Steps : List Round → Type 0
  Steps [] = Unit {0}
  Steps (w ∷ ws) =
      RingReady K n f (R ws)
      × (bit_of w.struck i ≡ false → ends_with K (R ws).round ≡ true → enough n (rule_of K f) (entries_by K (heard_at K n f (R ws) w i)) ≡ true)
      × Steps ws

  pub since_of_lem : (ws : List Round) → Steps ws → bit_of (R ws).before i ≡ false → since_of ((R ws).heads i) ≡ count_after K ws i
  unfolding ring_after after_round ends_since
  since_of_lem [] W q = first_since
  since_of_lem (w ∷ ws) W q =
      let z : length ws + 1 ≡ suc (length ws) = omega arith in
      let ends : ends_phase K (suc (length ws)) ≡ ends_with K (R ws).round = rw z at (next_ends K n f v ws) in
      let opens = opened_since ws w q (since_of_lem ws W.2) in
      round_since K n f (R ws) w W.0 i l q (W.1 q) (ends_with K (R ws).round) refl (ends_since K i ws) opens
      ∙ ap (λ (b : Bool). min most_counted (ends_since K i ws + bit b)) (sym ends)
      ∙ rw q

  steps : (ws : List Round) → FewStruckIn n f ws → length ws ≤ most_rounds K → Steps ws
  steps [] W m = tt
  steps (w ∷ ws) W m =
      let P = playable K n f v S range ws W.1 (omega arith) in
      (P.ready, (λ q c. P.settles c w W.0 i l q), steps ws W.1 (omega arith))

pub receiver_hears : (n m i : ℕ) → i < receivers → is_receiver n m i ≡ true → Hears n i
receiver_hears n m i l e = (hears n m 0 i l (rw (e, bit_none i))).0

pub ring_counts : RingCounts
ring_counts K n m f v ws X i l e q =
    let S = within_sized X in
    let h = receiver_hears n m i l e in
    since_of_lem K n f v S X.range i h ws (steps K n f v S X.range i h ws X.few X.rounds) q
