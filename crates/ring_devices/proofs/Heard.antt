-- What a round makes of a record depends on the first acceptable frame of each link alone: not on the order of the links, nor on what else
-- is delivered.
use Rattle.std.specs.Prelude.{Ok}
use mathlib.Core.Path.{◌≡◌, refl, ap, sym, ◌∙◌}
use mathlib.Core.Bool.{Bool, true, false, cond, ◌&&◌}
use mathlib.Core.List.{List, [], ◌∷◌, ◌++◌}
use Prim.Native.Nat.{ℕ, zero, suc, ◌<◌}
use native.Mathlib.Omega.{arith}
use lib.Dec.{eqb}
use Rattle.terms.specs.Refusals as refusal
use Rattle.terms.specs.Refusals.{leaves}
use Rattle.terms.specs.Sizes.{rounds_of}
use Rattle.terms.specs.declared.Family.{Family}
use Rattle.terms.specs.declared.Family.TheVariants.{TwoRounds, OneRound}
use Rattle.entries.specs.Tables.{table_at}
use Rattle.entries.proofs.Tables.{table_same}
use Rattle.terms.specs.Counting.{Each}
use Rattle.convergence.specs.Settling.{rule_of, enough}
use Rattle.convergence.specs.Trust.{trusted}
use Rattle.terms.specs.Positions.{rounding}
use Rattle.convergence.proofs.Same.{trusted_same, nulls_same}
use Rattle.settle_midpoint.specs.Answers.{settling}
use Rattle.settle_midpoint.specs.Settled.{Settled}
use Rattle.settle_midpoint.proofs.Middle.{settling_same}
use Rattle.frame_spec.specs.Said.{Meaning, refused, collected, listed, confessed}
use Rattle.frame_spec.specs.Proper.{ProperTable}
use Rattle.frame_spec.proofs.OneMeaning.{nothing_said}
use Rattle.frame_spec.proofs.Tables.{table_of_entries}
use Rattle.head_spec.specs.declared.Seat.{Seat}
use Rattle.head_spec.specs.declared.Head.{Head}
use Rattle.head_spec.specs.declared.Closing.{Closing}
use Rattle.head_spec.specs.Record.{given, heard_entry, given_of, entries_by}
use Rattle.head_spec.specs.Calls.{answer, said_to, Delivery, hear_each, hear_all, closed_collection, closed_phase, settling_of, end_settled, is_last_round, end_round}
use Rattle.head_spec.specs.Batch.{deliveries_of, batch_refusal, hear_batch}
use Rattle.head_spec.specs.Demand2.{or_else, first_said}
use Rattle.head_spec.proofs.Proper.{ProperSeat, ProperHead}
use Rattle.head_spec.proofs.Hearing.{Fresh, each_keep, proper_each, all_keep, proper_all, gave_first, listed_first, gave_as_said, listed_as_said}
use Rattle.head_spec.proofs.Offers.{offer_then_adopt}
use Rattle.head_spec.proofs.RoundEnd.{settled_by, enough_trusted, not_last, ends_collection, ends_last}
use Rattle.ring_spec.specs.Rounds.{round_ended}
use Rattle.ring_devices.specs.Devices.{HearCall, hears_one, hears_batch, heard_by, brought_by, is_accepted, first_frame}

-- ---- calls that hear are deliveries

each_more : (D E : List Delivery) (h : Head) → hear_each h (D ++ E) ≡ hear_each (hear_each h D) E
unfolding hear_each
each_more [] E h = refl
each_more (d ∷ D) E h = each_more D E _

pub heard_by_lem : (C : List HearCall) (h : Head) → heard_by h C ≡ hear_each h (brought_by C)
unfolding heard_by brought_by hear_each hear_batch
heard_by_lem [] h = refl
heard_by_lem (hears_one k s ∷ C) h = heard_by_lem C _
heard_by_lem (hears_batch s room ∷ C) h = heard_by_lem C _ ∙ go (batch_refusal s room)
  where
    go : (c : ℕ) → hear_each (answer c (hear_each h (deliveries_of s)) h).head (brought_by C)
        ≡ hear_each h (leaves c (deliveries_of s) [] ++ brought_by C)
    go zero = sym (each_more (deliveries_of s) (brought_by C) h)
    go (suc c) = refl

-- ---- what a link says is what its first acceptable frame says

pub first_says : {X : Type 0} (W : Meaning → X) → ((c : ℕ) → W (refused 0) ≡ W (refused c)) → (x : Seat) (k : ℕ) (D : List Delivery)
    → W (first_said x k D) ≡ W (said_to x k (first_frame x k D))
unfolding first_said first_frame
first_says W none x k [] = none refusal.stated_length_differs ∙ ap W (sym (nothing_said x.n x.phase x.round k))
first_says W none x k (d ∷ D) = go (eqb d.link k) (said_to x k d.bytes) refl (first_says W none x k D)
  where
    go : (b : Bool) (m : Meaning) → said_to x k d.bytes ≡ m → W (first_said x k D) ≡ W (said_to x k (first_frame x k D))
        → W (cond b (or_else m (first_said x k D)) (first_said x k D))
        ≡ W (said_to x k (cond (b && is_accepted m) d.bytes (first_frame x k D)))
    go false m e ih = ih
    go true (refused c) e ih = ih
    go true (collected y) e ih = ap W (sym e)
    go true (listed t) e ih = ap W (sym e)
    go true confessed e ih = ap W (sym e)

-- ---- two records in one seat that were given the same end their round with the same record

module _ (T T' : Head) (seat : T.seat ≡ T'.seat) (P : ProperHead T) (P' : ProperHead T') (runs : T'.seat.ended ≡ false) where
  abbrev n : ℕ
  n = T'.seat.n

  abbrev K : Family
  K = T'.seat.family

  ended_as : (h : Head) → round_ended h ≡ (end_round h).head
  ended_as h = ap (λ (c : Closing). c.head) (offer_then_adopt h)

  still_runs : T.seat.ended ≡ false
  still_runs = ap (λ (x : Seat). x.ended) seat ∙ runs

  last : {b : Bool} → is_last_round T'.seat ≡ b → is_last_round T.seat ≡ b
  last e = ap is_last_round seat ∙ e

  pub same_collection : is_last_round T'.seat ≡ false → Each n (λ k. table_at T.list k ≡ table_at T'.list k)
      → round_ended T ≡ round_ended T'
  unfolding closed_collection
  same_collection r same =
      let most = P'.seat.size.most in
      let proper : ProperTable n T.list = rw seat at P.list in
      let lists : T.list ≡ T'.list =
      sym (table_of_entries n T.list proper most) ∙ table_same n _ _ same ∙ table_of_entries n T'.list P'.list most in
      let opens : closed_collection T ≡ closed_collection T' = rw (seat, lists) in
      ended_as T
      ∙ ap (λ (c : Closing). c.head) (ends_collection T still_runs (last r))
      ∙ opens
      ∙ sym (ap (λ (c : Closing). c.head) (ends_collection T' runs r))
      ∙ sym (ended_as T')

  -- what the last round of a phase settles
  module _ (same : Each n (λ k. entries_by K T k ≡ entries_by K T' k)) (calm : enough_trusted T' ≡ true) where
    settles : settling_of T' ≡ Ok (settled_by T')
    unfolding settling
    settles = rw calm

    pub settles_same : settling_of T ≡ Ok (settled_by T')
    settles_same =
        ap (λ (x : Seat). settling (rounding x.phase) x.n (rule_of x.family x.f) (entries_by x.family T)) seat
        ∙ settling_same (rounding T'.seat.phase) n (rule_of K T'.seat.f) (entries_by K T) (entries_by K T') same
        ∙ settles

    pub same_confession : is_last_round T'.seat ≡ true → round_ended T ≡ round_ended T'
    unfolding closed_phase
    same_confession r =
        let opens : closed_phase T (settled_by T') ≡ closed_phase T' (settled_by T') = rw seat in
        ended_as T
        ∙ ap (λ (c : Closing). c.head) (ends_last T still_runs (last r) ∙ ap (λ (z : Settled). end_settled z T) settles_same)
        ∙ opens
        ∙ sym (ap (λ (c : Closing). c.head) (ends_last T' runs r ∙ ap (λ (z : Settled). end_settled z T') settles))
        ∙ sym (ended_as T')

-- a ring of one round has round 0 alone
single_round : {s : Seat} → ProperSeat s → s.family ≡ OneRound → s.round ≡ 0
single_round {s} P q = go s.family q P.round
  where
    go : (K : Family) → K ≡ OneRound → s.round < rounds_of K → s.round ≡ 0
    go TwoRounds e l = let z : ◌≡◌ {A = ℕ} 0 1 = cc in absurd (omega arith)
    go OneRound e l = omega arith

-- ---- hearing any deliveries ends the round as hearing each link's first acceptable frame, link by link, does

module _ (h : Head) (F : Fresh h) (D : List Delivery) (g : ℕ → List ℕ)
    (first : Each h.seat.n (λ k. g k ≡ first_frame h.seat k D)) where
  abbrev T : Head
  T = hear_each h D

  abbrev L : Head
  L = hear_all h g h.seat.n

  stays : L.seat ≡ h.seat
  stays = all_keep h g h.seat.n

  kept : T.seat ≡ L.seat
  kept = each_keep D h ∙ sym stays

  runs_on : L.seat.ended ≡ false
  runs_on = ap (λ (x : Seat). x.ended) stays ∙ F.runs

  within : {k : ℕ} → k < L.seat.n → k < h.seat.n
  within l = rw stays at l

  -- what is read of link k
  read : {X : Type 0} (W : Meaning → X) → ((c : ℕ) → W (refused 0) ≡ W (refused c)) → (k : ℕ) → k < h.seat.n
      → W (first_said h.seat k D) ≡ W (said_to h.seat k (g k))
  read W none k l = first_says W none h.seat k D ∙ ap (λ (s : List ℕ). W (said_to h.seat k s)) (sym (first k l))

  listed_alike : h.seat.round ≡ 0 → (k : ℕ) → k < h.seat.n → table_at T.list k ≡ table_at L.list k
  listed_alike r k b = listed_first h F D r k b ∙ read heard_entry (λ c. refl) k b ∙ sym (listed_as_said h F g r k b)

  gave_alike : (k : ℕ) → k < h.seat.n → given T k ≡ given L k
  gave_alike k b = gave_first h F D k b ∙ read given_of (λ c. refl) k b ∙ sym (gave_as_said h F g k b)

  proper-T : ProperHead T
  proper-T = proper_each D h F.proper

  proper-L : ProperHead L
  proper-L = proper_all h g h.seat.n F.proper

  pub collection_alike : is_last_round h.seat ≡ false → round_ended T ≡ round_ended L
  collection_alike r =
      same_collection T L kept proper-T proper-L runs_on (ap is_last_round stays ∙ r)
      (λ k l. listed_alike (not_last h.seat.family h.seat.round r).1 k (within l))

  -- the entries from which the phase end settles
  entries_alike : Each L.seat.n (λ k. entries_by L.seat.family T k ≡ entries_by L.seat.family L k)
  entries_alike k l = go L.seat.family refl
    where
      go : (x : Family) → L.seat.family ≡ x → entries_by x T k ≡ entries_by x L k
      go TwoRounds e =
          ap (λ (x : Seat). trusted x.n x.f (given T) k) kept
          ∙ trusted_same L.seat.n L.seat.f (given T) (given L) k l (λ j b. gave_alike j (within b))
      go OneRound e = listed_alike (single_round F.proper.seat (sym (ap (λ (x : Seat). x.family) stays) ∙ e)) k (within l)

  -- there are enough of them for the one as for the other
  pub enough_alike : enough_trusted T ≡ true → enough_trusted L ≡ true
  unfolding enough
  enough_alike e =
      rw (← nulls_same L.seat.n (entries_by L.seat.family T) (entries_by L.seat.family L) entries_alike)
      (sym (ap (λ (x : Seat). enough x.n (rule_of x.family x.f) (entries_by x.family T)) kept) ∙ e)

  module _ (calm : enough_trusted L ≡ true) where
    pub settles_alike : settling_of T ≡ Ok (settled_by L)
    settles_alike = settles_same T L kept proper-T proper-L runs_on entries_alike calm

    pub confession_alike : is_last_round h.seat ≡ true → round_ended T ≡ round_ended L
    confession_alike r = same_confession T L kept proper-T proper-L runs_on entries_alike calm (ap is_last_round stays ∙ r)
