-- In a ring within the limits no call of an unstruck head or listener is refused: not the restart of a healed one, not a frame from an unstruck head, and no
-- closing, neither 25 nor 26. And each that is sound holds a position at each phase end, listeners from phase 1 on.
use mathlib.Core.Path.{◌≡◌, refl, ap}
use mathlib.Core.Logic.{◌≢◌}
use mathlib.Core.Bool.{Bool, true, false}
use mathlib.Core.List.{List}
use Prim.Native.Nat.{ℕ, ◌<◌}
use native.Mathlib.Omega.{arith}
use lib.ListN.{length, get_or}
use lib.IntN.{ℤ}
use Rattle.terms.specs.Refusals as refusal
use Rattle.terms.specs.declared.Family.{Family}
use Rattle.terms.specs.Sizes.{ends_with, is_listener}
use Rattle.marks.specs.Marks.{bit_of}
use Rattle.terms.specs.Counting.{Each, AtMost}
use Rattle.convergence.proofs.Ends.{AllHold, held_position}
use Rattle.frame_spec.specs.Said.{said}
use Rattle.head_spec.specs.declared.Closed.{Closed}
use Rattle.head_spec.specs.declared.Closing.{Closing}
use Rattle.head_spec.specs.Calls.{restart_refusal, restart_listener_refusal, spoken, end_round}
use Rattle.head_spec.proofs.Proper.{Sized, restart_accepted, restart_listener_accepted}
use Rattle.ring_spec.specs.Rounds.{Round, Ring, opened_at, carried, receivers, as_end, ring_after, ends_after, most_rounds}
use Rattle.ring_spec.specs.Converges.{no_end, RingWithin}
use Rattle.ring_spec.proofs.Receivers.{Hears}
use Rattle.ring_spec.proofs.OneRound.{heard_at, said_spoken}
use Rattle.ring_spec.proofs.Closings.{collection_closes, confession_closes}
use Rattle.ring_spec.proofs.Demand3.{Playable, playable, within_sized, ring_converges}

module _ (K : Family) (n m f : ℕ) (v : ℕ → ℤ) (ws : List Round) (X : RingWithin K n m f v ws) where
  abbrev R : Ring
  R = ring_after K n f v ws

  abbrev S : Sized K n f
  S = within_sized X

  -- another round may be played
  module _ (l : length ws < most_rounds K) where
    P : Playable K n f R
    P = playable K n f v S X.range ws X.few l

    pub restarts : Each n (λ i. restart_refusal K n f i R.phase R.round ≡ 0)
    restarts i k = let A = P.ready in restart_accepted K n f i S k R.phase R.round A.from_first A.to_last A.round

    pub listener_restarts : (i : ℕ) → is_listener i ≡ true → restart_listener_refusal K n f i R.phase R.round ≡ 0
    listener_restarts i e = let A = P.ready in restart_listener_accepted K n f i S e R.phase R.round A.from_first A.to_last A.round

    module _ (w : Round) where
      -- the same to every receiver
      pub heard_as_spoken : (i k : ℕ) → k < n → bit_of w.struck k ≡ false
          → said n R.phase R.round k (carried K n f R w i k) ≡ spoken (opened_at K n f R w k)
      heard_as_spoken = said_spoken K n f R w P.ready

      module _ (few : AtMost f n (bit_of w.struck)) (i : ℕ) (h : Hears n i) (q : bit_of w.struck i ≡ false) where
        -- the closing of receiver i, when it has heard all links
        abbrev closes : Closing
        closes = end_round (heard_at K n f R w i)

        pub never_refused : (c : ℕ) → closes.closed ≢ Closed.Refused c
        never_refused c e = go (ends_with K R.round) refl
          where
            go : (b : Bool) → ends_with K R.round ≡ b → ⊥
            go false z =
                let x = ap (λ (x : Closing). x.closed) (collection_closes K n f R w P.ready i h q z) in
                let k : ◌≡◌ {A = ℕ} 0 1 = cc in
                omega arith
            go true z =
                let x = ap (λ (x : Closing). x.closed) (confession_closes K n f R w P.ready i h q z (P.settles z w few i h q)) in
                let k : ◌≡◌ {A = ℕ} 0 1 = cc in
                omega arith

        pub never_25 : closes.closed ≢ Closed.Refused refusal.too_few_trusted
        never_25 = never_refused refusal.too_few_trusted

  pub sound_holds : (i : ℕ) → i < length (ends_after K n f v ws) → AllHold receivers (as_end n m (get_or (ends_after K n f v ws) i no_end))
  sound_holds i h j b q = held_position _ _ _ ((ring_converges K n m f v ws X i 0 (omega arith)).range j b q)
