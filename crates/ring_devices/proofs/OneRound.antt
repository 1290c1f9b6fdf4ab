-- One round of devices. What the cable brings to a receiver amounts to one frame for each link: the first acceptable one, or none. So a
-- round of devices is a plain round, in which that is planted from every marked head, and a listener that is not there is marked (`as_round`). A
-- marked device's record may be any, and nobody reads it: the next round restarts it. So both rings agree on all receivers that the round before
-- did not mark, if each device that this one does not mark has enough entries to end it (`next_same`), and no call is refused.
use mathlib.Core.Path.{◌≡◌, refl, ap, ap₂, sym, subst, ◌∙◌}
use mathlib.Core.Bool.{Bool, true, false, cond}
use mathlib.Core.List.{List}
use mathlib.Core.Logic.{inl, inr}
use Prim.Native.Nat.{ℕ, zero, suc, ◌≤◌, ◌<◌}
use native.Mathlib.Omega.{arith}
use borrow.Author.Tests.{lt-ltb, le-ltb}
use Rattle.terms.specs.Sizes.{ends_with}
use Rattle.terms.specs.declared.Family.{Family}
use Rattle.marks.specs.Marks.{bit_of}
use Rattle.terms.specs.Counting.{Each}
use Rattle.convergence.specs.Settling.{rule_of, enough}
use Rattle.frame_spec.specs.Said.{listed, confessed}
use Rattle.settle_midpoint.specs.Settled.{Settled}
use Rattle.head_spec.specs.declared.Seat.{Seat}
use Rattle.head_spec.specs.declared.Head.{Head}
use Rattle.head_spec.specs.declared.Answer.{Answer}
use Rattle.head_spec.specs.declared.Closing.{Closing}
use Rattle.head_spec.specs.Record.{entries_by}
use Rattle.head_spec.specs.Calls.{restarted, Delivery, hear_each, hear_all, said_to, spoken_in, spoken, frame_for, offer_settled, is_last_round, close}
use Rattle.head_spec.proofs.Proper.{restart_accepted, restart_listener_accepted}
use Rattle.head_spec.proofs.Stops.{takes, restarts_anew, listener_restarts_anew}
use Rattle.head_spec.proofs.Hearing.{each_keep}
use Rattle.head_spec.proofs.RoundEnd.{enough_trusted}
use Rattle.head_spec.proofs.RoundClose.{closes_collection, closes_last}
use Rattle.ring_spec.specs.Rounds.{Round, planted, Ring, round_ended, opened_at, carried, closed_at, after_round, is_receiver}
use Rattle.ring_spec.proofs.Receivers.{Hears, listener_large}
use Rattle.ring_spec.proofs.OneRound.{Ready, RingReady, heard_at, opened_ready, said_spoken, heard_at_lem}
use Rattle.ring_spec.specs.Recovery.{IsClosed}
use Rattle.ring_spec.proofs.Recovery.{closed_enough, listed_closed, seat_enough}
use Rattle.ring_devices.specs.Devices.{heard_by, brought_by, is_accepted, first_frame, DeviceRound, again, opened_by, closed_by, Carries, after_devices, ClosesUnrefused}
use Rattle.ring_devices.specs.Recovery.{EndsIt}
use Rattle.ring_devices.proofs.Heard.{heard_by_lem, collection_alike, enough_alike, settles_alike, confession_alike}
use Rattle.ring_devices.proofs.Planting.{plants_of, plants_reach, head_receives, receives, with_absent, present_same, unmarked_there}

-- the plain round of a round of devices: from each head is planted what comes first on its link
module _ (K : Family) (n m f : ℕ) (R : Ring) (w : DeviceRound) where
  abbrev pub brought : ℕ → List Delivery
  brought i = brought_by (w.calls i)

  abbrev pub comes : ℕ → ℕ → List ℕ
  comes k i = first_frame (opened_by K n f R i).seat k (brought i)

  unfoldable pub as_round : Round
  as_round = record { struck = with_absent m w.marks; amended = false; plants = plants_of comes n }

-- two rings with the same records, but for those that the next round restarts
pub record SameSound (n m : ℕ) (R R' : Ring) : Type 0 where
  pub phase : R.phase ≡ R'.phase
  pub round : R.round ≡ R'.round
  pub before : (i : ℕ) → is_receiver n m i ≡ true → bit_of R.before i ≡ bit_of R'.before i
  pub heads : (i : ℕ) → is_receiver n m i ≡ true → bit_of R'.before i ≡ false → R.heads i ≡ R'.heads i

-- what a record has to say is acceptable
pub speaks : (h : Head) → is_accepted (spoken h) ≡ true
unfolding spoken
speaks h = go h.seat.round
  where
    either : (b : Bool) → is_accepted (cond b confessed (listed h.list)) ≡ true
    either true = refl
    either false = refl

    go : (r : ℕ) → is_accepted (spoken_in r h) ≡ true
    go zero = refl
    go (suc r) = either h.seat.healed

-- a restart is accepted, and makes the record anew
again_anew : (K : Family) (n f : ℕ) (R : Ring) → RingReady K n f R → (h : Head) (i : ℕ) → Hears n i
    → again K n f h i R.phase R.round ≡ takes (restarted K n f i R.phase R.round)
again_anew K n f R A h i (inl l) =
    rw (lt-ltb i 32 (omega (arith, A.size.most)))
    (restarts_anew h K n f i R.phase R.round
    (restart_accepted K n f i A.size l R.phase R.round A.from_first A.to_last A.round))
again_anew K n f R A h i (inr e) =
    rw (le-ltb i 32 (listener_large i e))
    (listener_restarts_anew h K n f i R.phase R.round
    (restart_listener_accepted K n f i A.size e R.phase R.round A.from_first A.to_last A.round))

module _ (K : Family) (n m f : ℕ) (most : n ≤ 32) (few-m : m ≤ 16) (R R' : Ring) (w : DeviceRound) (S : SameSound n m R R')
    (P : RingReady K n f R') where
  abbrev w' : Round
  w' = as_round K n m f R w

  pub restart_taken : (i : ℕ) → is_receiver n m i ≡ true → (again K n f (R.heads i) i R.phase R.round).refusal ≡ 0
  restart_taken i t =
      rw (S.phase, S.round)
      (ap (λ (a : Answer). a.refusal) (again_anew K n f R' P (R.heads i) i (receives n m most few-m i t).0))

  module _ (i : ℕ) (t : is_receiver n m i ≡ true) (q : bit_of w.marks i ≡ false) where
    pub opened_same : opened_by K n f R i ≡ opened_at K n f R' w' i
    unfolding opened_by opened_at as_round
    opened_same = rw (present_same n m most w.marks i t ∙ q, S.before i t, S.phase, S.round) (go (bit_of R'.before i) (S.heads i t))
      where
        go : (b : Bool) → (b ≡ false → R.heads i ≡ R'.heads i)
            → cond b (again K n f (R.heads i) i R'.phase R'.round).head (R.heads i)
            ≡ cond b (restarted K n f i R'.phase R'.round) (R'.heads i)
        go true same = ap (λ (a : Answer). a.head) (again_anew K n f R' P (R.heads i) i (receives n m most few-m i t).0)
        go false same = same refl

    abbrev h : Head
    h = opened_at K n f R' w' i

    abbrev l : Hears n i
    l = (receives n m most few-m i t).0

    q' : bit_of w'.struck i ≡ false
    unfolding as_round
    q' = present_same n m most w.marks i t ∙ q

    pub H : Ready K n f i R'.phase R'.round (bit_of R'.before i) h
    H = opened_ready K n f R' w' P i l q'

    -- its round is the ring's
    last_in : {b : Bool} → ends_with K R'.round ≡ b → is_last_round h.seat ≡ b
    last_in c = ap₂ ends_with H.seat.family H.seat.round ∙ c

  -- what an unmarked head writes is acceptable to every unmarked device
  pub frame_taken : (i k : ℕ) → is_receiver n m i ≡ true → bit_of w.marks i ≡ false → k < n → bit_of w.marks k ≡ false
      → is_accepted (said_to (opened_by K n f R i).seat k (frame_for (opened_by K n f R k))) ≡ true
  unfolding carried as_round
  frame_taken i k t q b e =
      let A = (H i t q).seat in
      let o = head_receives n m k b in
      let z = q' k o e in
      let x = rw z at (said_spoken K n f R' w' P i k b z) in
      rw (opened_same i t q, opened_same k o e, A.count, A.phase, A.round, x) (speaks (opened_at K n f R' w' k))

  module _ (C : Carries K n f R w m) where
    module _ (i : ℕ) (t : is_receiver n m i ≡ true) (q : bit_of w.marks i ≡ false) where
      abbrev h' : Head
      h' = h i t q

      abbrev H' : Ready K n f i R'.phase R'.round (bit_of R'.before i) h'
      H' = H i t q

      -- each link of the plain ring carries what comes first
      carried_first : Each n (λ k. carried K n f R' w' i k ≡ comes K n m f R w k i)
      unfolding carried as_round Carries
      carried_first k b = rw (present_same n m most w.marks k (head_receives n m k b)) (go (bit_of w.marks k) refl)
        where
          go : (c : Bool) → bit_of w.marks k ≡ c
              → cond c (planted (plants_of (comes K n m f R w) n) k i) (frame_for (opened_at K n f R' w' k)) ≡ comes K n m f R w k i
          go true e = plants_reach (comes K n m f R w) n k i b (receives n m most few-m i t).1
          go false e = ap frame_for (sym (opened_same k (head_receives n m k b) e)) ∙ sym (C i k t q b e)

      abbrev D : List Delivery
      D = brought K n m f R w i

      first : Each h'.seat.n (λ k. carried K n f R' w' i k ≡ first_frame h'.seat k D)
      first k b = carried_first k (rw H'.seat.count at b) ∙ ap (λ (x : Head). first_frame x.seat k D) (opened_same i t q)

      all : hear_all h' (carried K n f R' w' i) h'.seat.n ≡ heard_at K n f R' w' i
      all = ap (hear_all h' (carried K n f R' w' i)) H'.seat.count

      -- the entries are those of the receiver's own seat
      seated : enough_trusted (hear_all h' (carried K n f R' w' i) h'.seat.n) ≡ enough n (rule_of K f) (entries_by K (heard_at K n f R' w' i))
      seated =
          let A = heard_at_lem K n f R' w' P i (l i t q) (q' i t q) in
          ap enough_trusted all
          ∙ (λ x. enough (A.count x) (rule_of (A.family x) (A.limit x)) (entries_by (A.family x) (heard_at K n f R' w' i)))

      -- the record that has heard
      heard_as_lem : heard_by (opened_by K n f R i) (w.calls i) ≡ hear_each h' D
      heard_as_lem = heard_by_lem (w.calls i) (opened_by K n f R i) ∙ ap (λ (x : Head). hear_each x D) (opened_same i t q)

      still : (hear_each h' D).seat ≡ h'.seat
      still = each_keep D h'

      runs : (hear_each h' D).seat.ended ≡ false
      runs = ap (λ (y : Seat). y.ended) still ∙ H'.fresh.runs

      -- a device that ends the last round of a phase had enough entries
      closed_settles : ends_with K R'.round ≡ true → IsClosed (close (heard_by (opened_by K n f R i) (w.calls i))).closed
          → enough n (rule_of K f) (entries_by K (heard_at K n f R' w' i)) ≡ true
      closed_settles o X =
          sym seated
          ∙ enough_alike h' H'.fresh D (carried K n f R' w' i) first
          (closed_enough (hear_each h' D) runs (ap is_last_round still ∙ last_in i t q o) (rw heard_as_lem at X))

    pub ends_settle : EndsIt K n f R w m → ends_with K R'.round ≡ true → (i : ℕ) → is_receiver n m i ≡ true → bit_of w.marks i ≡ false
        → enough n (rule_of K f) (entries_by K (heard_at K n f R' w' i)) ≡ true
    ends_settle X o i t q = closed_settles i t q o (X i t q)

  module _ (C : Carries K n f R w m) (settles : ends_with K R'.round ≡ true → (i : ℕ) → is_receiver n m i ≡ true → bit_of w.marks i ≡ false
      → enough n (rule_of K f) (entries_by K (heard_at K n f R' w' i)) ≡ true) where
    -- so does the plain ring
    pub plain_closes : (i : ℕ) → Hears n i → bit_of w'.struck i ≡ false → IsClosed (close (heard_at K n f R' w' i)).closed
    unfolding as_round
    plain_closes i h e = go (ends_with K R'.round) refl
      where
        t : is_receiver n m i ≡ true
        t = unmarked_there n m most w.marks i h e

        q : bit_of w.marks i ≡ false
        q = sym (present_same n m most w.marks i t) ∙ e

        go : (b : Bool) → ends_with K R'.round ≡ b → IsClosed (close (heard_at K n f R' w' i)).closed
        go false c =
            let A = heard_at_lem K n f R' w' P i h e in
            listed_closed (heard_at K n f R' w' i) A.runs ((λ x. ends_with (A.family x) (A.round x)) ∙ c)
        go true c = seat_enough K n f R' w' P i h e c (settles c i t q)

    module _ (i : ℕ) (t : is_receiver n m i ≡ true) (q : bit_of w.marks i ≡ false) where
      abbrev h'' : Head
      h'' = h i t q

      abbrev H'' : Ready K n f i R'.phase R'.round (bit_of R'.before i) h''
      H'' = H i t q

      abbrev D'' : List Delivery
      D'' = brought K n m f R w i

      -- there are enough entries in the last round of a phase
      calm : ends_with K R'.round ≡ true → enough_trusted (hear_all h'' (carried K n f R' w' i) h''.seat.n) ≡ true
      calm o = seated C i t q ∙ settles o i t q

      ends_same_round : round_ended (hear_each h'' D'') ≡ round_ended (heard_at K n f R' w' i)
      ends_same_round = go (ends_with K R'.round) refl
        where
          go : (b : Bool) → ends_with K R'.round ≡ b → round_ended (hear_each h'' D'') ≡ round_ended (heard_at K n f R' w' i)
          go false c = collection_alike h'' H''.fresh D'' (carried K n f R' w' i) (first C i t q) (last_in i t q c) ∙ ap round_ended (all C i t q)
          go true c = confession_alike h'' H''.fresh D'' (carried K n f R' w' i) (first C i t q) (calm c) (last_in i t q c) ∙ ap round_ended (all C i t q)

      closed_same : closed_by K n f R w i ≡ closed_at K n f R' w' i
      unfolding closed_by closed_at as_round
      closed_same = rw (q, q' i t q) (ap round_ended (heard_as_lem C i t q) ∙ ends_same_round)

      pub closes_in : ClosesUnrefused (ends_with K R.round) (close (heard_by (opened_by K n f R i) (w.calls i))).closed
      closes_in =
          subst (λ (r : ℕ). ClosesUnrefused (ends_with K r) (close (heard_by (opened_by K n f R i) (w.calls i))).closed) (sym S.round)
          (rw (heard_as_lem C i t q) (go (ends_with K R'.round) refl))
        where
          go : (b : Bool) → ends_with K R'.round ≡ b → ClosesUnrefused b (close (hear_each h'' D'')).closed
          go false c = ap (λ (y : Closing). y.closed) (closes_collection (hear_each h'' D'') (runs C i t q) (ap is_last_round (still C i t q) ∙ last_in i t q c))
          go true c =
              let z = settles_alike h'' H''.fresh D'' (carried K n f R' w' i) (first C i t q) (calm c) in
              let r : is_last_round (hear_each h'' D'').seat ≡ true = ap is_last_round (still C i t q) ∙ last_in i t q c in (
                _,
                ap (λ (y : Closing). y.closed)
                    (closes_last (hear_each h'' D'') (runs C i t q) r ∙ ap (λ (y : Settled). offer_settled y (hear_each h'' D'')) z),
              )

    pub next_same : SameSound n m (after_devices K n f R w) (after_round K n f R' w')
    unfolding after_devices after_round as_round
    next_same = record { phase = rw (S.round, S.phase); round = rw S.round; before = λ i t. sym (present_same n m most w.marks i t); heads = λ i t e. closed_same i t (sym (present_same n m most w.marks i t) ∙ e) }
