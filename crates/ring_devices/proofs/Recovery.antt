-- More devices marked than f: by the rounds of `as_rounds`, as in Devices.antt. A device that ended the last round of a phase had enough entries, and so
-- has its record of the plain ring (`served_along`). From the end with at most f marked on, the plain ring can play each round as it comes
-- (`playable_from`). What ring_spec's Recovery.antt proves of plain rings does the rest.
use mathlib.Core.Path.{◌≡◌, refl, ap, sym, subst, ◌∙◌}
use mathlib.Core.Bool.{true}
use mathlib.Core.List.{List, [], ◌∷◌, ◌++◌}
use Prim.Native.Nat.{ℕ, ◌+◌, ◌≤◌, ◌<◌}
use native.Mathlib.Omega.{arith}
use lib.ListN.{length, length-append}
use lib.IntN.{ℤ}
use Rattle.terms.specs.Positions.{is_position}
use Rattle.terms.specs.declared.Family.{Family}
use Rattle.marks.specs.Marks.{bit_of}
use Rattle.terms.specs.Counting.{Each, AtMost}
use Rattle.convergence.proofs.Same.{demand3_same}
use Rattle.convergence.proofs.Demand3.{size_large}
use Rattle.head_spec.specs.declared.Head.{Head}
use Rattle.head_spec.proofs.Proper.{Sized}
use Rattle.ring_spec.specs.Rounds.{Round, Ring, most_rounds, ends_phase, PhaseEnd, ring_after, ends_after}
use Rattle.ring_spec.specs.Converges.{FewStruckIn}
use Rattle.ring_spec.specs.Recovery.{EachEnds}
use Rattle.ring_spec.proofs.OneRound.{RingReady}
use Rattle.ring_spec.proofs.Demand3.{Playable}
use Rattle.ring_spec.proofs.Recovery.{ready_after, playable_from, overload_forgotten}
use Rattle.ring_devices.specs.Devices.{DeviceRound, devices_after, ends_of_devices}
use Rattle.ring_devices.specs.Recovery.{RoundsServed, LaterWithin, DevicesOverloaded, AnyTwoSince, DevicesRecover}
use Rattle.ring_devices.proofs.Planting.{few_absent}
use Rattle.ring_devices.proofs.OneRound.{as_round, ends_settle, plain_closes, next_same}
use Rattle.ring_devices.proofs.Devices.{SameEnds, same_end, Known, as_rounds, as_many, SameAlong, same_here, next_few, ends_same}

module _ (K : Family) (n m f : ℕ) (v : ℕ → ℤ) (memory : ℕ → Head) (most : n ≤ 32) (few-m : m ≤ 16) (Z : Sized K n f) (range : Each n (λ i. is_position (v i) ≡ true)) where
  abbrev R : List DeviceRound → Ring
  R = devices_after K n f v memory

  abbrev plain : List DeviceRound → List Round
  plain = as_rounds K n m f v memory most

  abbrev R' : List DeviceRound → Ring
  R' ws = ring_after K n f v (plain ws)

  abbrev Along : List DeviceRound → Type 0
  Along = SameAlong K n m f v memory most few-m Z range

  -- ---- rounds that mark any number

  served_ready : (us : List DeviceRound) → EachEnds K n f v (plain us) → length us < most_rounds K → RingReady K n f (R' us)
  served_ready us E l = let y = as_many K n m f v memory most us in ready_after K n f v Z range (plain us) E (omega arith)

  pub served_along : (us : List DeviceRound) → RoundsServed K n f v memory m us → length us ≤ most_rounds K → Along us × EachEnds K n f v (plain us)
  unfolding devices_after ring_after EachEnds
  served_along [] W l = (tt, tt)
  served_along (w ∷ us) W l =
      let (A, E) = served_along us W.2 (omega arith) in
      let S = same_here K n m f v memory most few-m Z range us A in
      let T = served_ready us E (omega arith) in
      let settles = ends_settle K n m f most few-m (R us) (R' us) w S T W.0 W.1 in
      ((next_same K n m f most few-m (R us) (R' us) w S T W.0 settles, A), (plain_closes K n m f most few-m (R us) (R' us) w S T W.0 settles, E))

  pub served_known : (us : List DeviceRound) → RoundsServed K n f v memory m us → length us < most_rounds K → Known K n m f (R us)
  served_known us W l =
      let (A, E) = served_along us W (omega arith) in
      record { plain = R' us; same = same_here K n m f v memory most few-m Z range us A; ready = served_ready us E l }

  -- ---- and later ones

  module _ (w : DeviceRound) (us : List DeviceRound) (early : RoundsServed K n f v memory m (w ∷ us)) (ends : ends_phase K (length (w ∷ us)) ≡ true)
      (few : AtMost f n (bit_of w.marks)) where
    -- their plain rounds
    abbrev later : List DeviceRound → List Round
    later [] = []
    later (x ∷ ws) = as_round K n m f (R (ws ++ w ∷ us)) x ∷ later ws

    later_as : (ws : List DeviceRound) → plain (ws ++ w ∷ us) ≡ later ws ++ plain (w ∷ us)
    later_as [] = refl
    later_as (x ∷ ws) = ap (λ (xs : List Round). as_round K n m f (R (ws ++ w ∷ us)) x ∷ xs) (later_as ws)

    later_few : (ws : List DeviceRound) → LaterWithin K n f v memory m ws (w ∷ us) → FewStruckIn n f (later ws)
    unfolding as_round
    later_few [] W = W
    later_few (x ∷ ws) W = (few_absent n m most x.marks f W.0, later_few ws W.2)

    few_last : AtMost f n (bit_of (as_round K n m f (R us) w).struck)
    unfolding as_round
    few_last = few_absent n m most w.marks f few

    ends_as : ends_phase K (length (plain (w ∷ us))) ≡ true
    ends_as = ap (ends_phase K) (as_many K n m f v memory most (w ∷ us)) ∙ ends

    all_many : (ws : List DeviceRound) → length (later ws ++ plain (w ∷ us)) ≡ length (ws ++ w ∷ us)
    all_many ws = sym (ap length (later_as ws)) ∙ as_many K n m f v memory most (ws ++ w ∷ us)

    first_many : (ws : List DeviceRound) → length (w ∷ us) ≤ length (ws ++ w ∷ us)
    first_many ws = omega (arith, length-append ws (w ∷ us))

    later_playable : (ws : List DeviceRound) → LaterWithin K n f v memory m ws (w ∷ us) → length (ws ++ w ∷ us) < most_rounds K
        → Playable K n f (R' (ws ++ w ∷ us))
    later_playable ws W l =
        let y = all_many ws in
        let (A, E) = served_along (w ∷ us) early (omega (arith, first_many ws)) in
        subst (λ (xs : List Round). Playable K n f (ring_after K n f v xs)) (sym (later_as ws))
        (playable_from K n f v Z range (as_round K n m f (R us) w) (plain us) E ends_as few_last (later ws) (later_few ws W) (omega arith))

    pub later_along : (ws : List DeviceRound) → LaterWithin K n f v memory m ws (w ∷ us) → length (ws ++ w ∷ us) ≤ most_rounds K → Along (ws ++ w ∷ us)
    later_along [] W l = (served_along (w ∷ us) early l).0
    later_along (x ∷ ws) W l =
        next_few K n m f v memory most few-m Z range x (ws ++ w ∷ us) (later_along ws W.2 (omega arith)) (later_playable ws W.2 (omega arith)) W.0 W.1

    pub later_known : (ws : List DeviceRound) → LaterWithin K n f v memory m ws (w ∷ us) → length (ws ++ w ∷ us) < most_rounds K → Known K n m f (R (ws ++ w ∷ us))
    later_known ws W l =
        record {
          plain = R' (ws ++ w ∷ us);
          same = same_here K n m f v memory most few-m Z range (ws ++ w ∷ us) (later_along ws W (omega arith));
          ready = (later_playable ws W l).ready;
        }

-- ---- the theorem

-- what holds of one list of ends holds of another with the same ends
pub since_same : (K : Family) (n m f : ℕ) {a b : ℕ} {es es' : List PhaseEnd} → a ≡ b → SameEnds n m es es' → AnyTwoSince K n m f b es' → AnyTwoSince K n m f a es
since_same K n m f e S X i k h = demand3_same (same_end n m (S.each (i + k))) (same_end n m (S.each i)) (X i k (omega (arith, S.many)))

module _ (K : Family) (n m f : ℕ) (v : ℕ → ℤ) (memory : ℕ → Head) (ws : List DeviceRound) (w : DeviceRound) (us : List DeviceRound)
    (X : DevicesOverloaded K n m f v memory ws w us) where
  pub sized : Sized K n f
  sized = record { some = omega (arith, size_large K n f X.size); most = X.most; limit = X.size }

  abbrev since : List Round
  since = later K n m f v memory X.most X.listeners sized X.range w us X.early X.ends X.few ws

  abbrev all : List Round
  all = since ++ as_rounds K n m f v memory X.most (w ∷ us)

  plain_since : AnyTwoSince K n m f (length (ends_after K n f v (as_rounds K n m f v memory X.most (w ∷ us)))) (ends_after K n f v all)
  plain_since =
      let y = all_many K n m f v memory X.most X.listeners sized X.range w us X.early X.ends X.few ws in
      (overload_forgotten K n m f v since (as_round K n m f (devices_after K n f v memory us) w) (as_rounds K n m f v memory X.most us) X.most X.size X.range
      (omega (arith, X.rounds))
      (served_along K n m f v memory X.most X.listeners sized X.range (w ∷ us) X.early
      (omega (arith, X.rounds, length-append ws (w ∷ us)))).1
      (ends_as K n m f v memory X.most X.listeners sized X.range w us X.early X.ends X.few)
      (few_last K n m f v memory X.most X.listeners sized X.range w us X.early X.ends X.few)
      (later_few K n m f v memory X.most X.listeners sized X.range w us X.early X.ends X.few ws X.later)).converges

  recovered : AnyTwoSince K n m f (length (ends_of_devices K n f v memory (w ∷ us))) (ends_of_devices K n f v memory (ws ++ w ∷ us))
  recovered =
      since_same K n m f
      (ends_same K n m f v memory X.most X.listeners sized X.range (w ∷ us)
      (later_along K n m f v memory X.most X.listeners sized X.range w us X.early X.ends X.few [] tt
      (omega (arith, X.rounds, length-append ws (w ∷ us))))).many
      (subst (λ (xs : List Round). SameEnds n m (ends_of_devices K n f v memory (ws ++ w ∷ us)) (ends_after K n f v xs))
      (later_as K n m f v memory X.most X.listeners sized X.range w us X.early X.ends X.few ws)
      (ends_same K n m f v memory X.most X.listeners sized X.range (ws ++ w ∷ us)
      (later_along K n m f v memory X.most X.listeners sized X.range w us X.early X.ends X.few ws X.later X.rounds)))
      plain_since

pub devices_recover : DevicesRecover
devices_recover = recovered
