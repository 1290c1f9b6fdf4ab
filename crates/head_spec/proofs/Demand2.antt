-- Demand 2 holds. Calls make proper records only, since start and restart make one and hearing and the ends of rounds keep it so; and of a proper record
-- the laws of this crate say the rest.
use mathlib.Core.Path.{◌≡◌, refl, ap, ◌∙◌}
use mathlib.Core.Bool.{Bool, false}
use mathlib.Core.List.{List}
use Prim.Native.Nat.{ℕ, ◌<◌}
use native.Mathlib.Omega.{arith}
use Rattle.terms.specs.declared.Family.{Family}
use Rattle.terms.specs.declared.Family.TheVariants.{TwoRounds, OneRound}
use Rattle.terms.specs.Sizes.{rounds_of}
use Rattle.entries.specs.Tables.{table_at}
use Rattle.terms.specs.Counting.{Each}
use Rattle.convergence.specs.Settling.{rule_of}
use Rattle.convergence.specs.Trust.{Given, trusted}
use Rattle.terms.specs.Positions.{rounding}
use Rattle.convergence.proofs.Same.{trusted_same}
use Rattle.convergence.proofs.Support.{trusted_iff}
use Rattle.settle_midpoint.specs.Answers.{settling}
use Rattle.settle_midpoint.specs.Settled.{Settled}
use Rattle.settle_midpoint.proofs.Middle.{settling_same}
use Rattle.frame_spec.proofs.OneMeaning.{one_meaning}
use Rattle.head_spec.specs.declared.Seat.{Seat}
use Rattle.head_spec.specs.declared.Head.{Head}
use Rattle.head_spec.specs.declared.Closing.{Closing}
use Rattle.head_spec.specs.Record.{given, given_of, entries_by}
use Rattle.head_spec.specs.Calls.{Delivery, hear_each, closed_collection, settling_of, end_settled, offer_settled, is_last_round}
use Rattle.head_spec.specs.Proper.{ProperSeat, ProperHead}
use Rattle.head_spec.specs.Demand2.{Reachable, starts, restarts, listens, listens_again, hears, ends, first_said, entries_from, settled_from, FollowsCC, AlgorithmCC, Demand2}
use Rattle.head_spec.proofs.Proper.{proper_started, proper_restarted, proper_started_listener, proper_restarted_listener}
use Rattle.head_spec.proofs.Taking.{proper_hear}
use Rattle.head_spec.proofs.Hearing.{Fresh, each_keep, gave_first, listed_first}
use Rattle.head_spec.proofs.RoundEnd.{not_last, ends_collection, ends_last, proper_end}
use Rattle.head_spec.proofs.RoundClose.{closes_last}
use Rattle.head_spec.proofs.Speaking.{spoken_reads_back, written_reads_back}

reached_proper : {h : Head} → Reachable h → ProperHead h
reached_proper (starts K n f i v e) = proper_started K n f i v e
reached_proper (restarts K n f i p r e) = proper_restarted K n f i p r e
reached_proper (listens K n f i e) = proper_started_listener K n f i e
reached_proper (listens_again K n f i p r e) = proper_restarted_listener K n f i p r e
reached_proper (hears {h} k s B R) = proper_hear h k s (reached_proper R)
reached_proper (ends {h} R) = proper_end h (reached_proper R)

-- a ring of one round has round 0 alone
single_round : {s : Seat} → ProperSeat s → s.family ≡ OneRound → s.round ≡ 0
single_round {s} P q = go s.family q P.round
  where
    go : (K : Family) → K ≡ OneRound → s.round < rounds_of K → s.round ≡ 0
    go TwoRounds e l = let z : ◌≡◌ {A = ℕ} 0 1 = cc in absurd (omega arith)
    go OneRound e l = omega arith

module _ (h : Head) (F : Fresh h) (D : List Delivery) where
  abbrev T : Head
  T = hear_each h D

  abbrev G : ℕ → Given
  G k = given_of (first_said h.seat k D)

  kept : T.seat ≡ h.seat
  kept = each_keep D h

  runs : T.seat.ended ≡ false
  runs = ap (λ (x : Seat). x.ended) kept ∙ F.runs

  last : {b : Bool} → is_last_round h.seat ≡ b → is_last_round T.seat ≡ b
  last e = ap is_last_round kept ∙ e

  -- the entries from which the phase end settles
  entries_first : (K : Family) → h.seat.family ≡ K → Each h.seat.n (λ j. entries_by K T j ≡ entries_from K h.seat D j)
  entries_first TwoRounds q j l =
      let n = h.seat.n in
      let f = h.seat.f in
      ap (λ (x : Seat). trusted x.n x.f (given T) j) kept ∙ trusted_same n f (given T) G j l (gave_first h F D)
  entries_first OneRound q j l = listed_first h F D (single_round F.proper.seat q) j l

  settled : settling_of T ≡ settled_from h.seat D
  settled =
      let K = h.seat.family in
      ap (λ (x : Seat). settling (rounding x.phase) x.n (rule_of x.family x.f) (entries_by x.family T)) kept
      ∙ settling_same (rounding h.seat.phase) h.seat.n (rule_of K h.seat.f) (entries_by K T) (entries_from K h.seat D) (entries_first K refl)

  follows : FollowsCC h D
  unfolding closed_collection
  follows =
      record {
        list =
            λ r k l. ap (λ (c : Closing). table_at c.head.list k) (ends_collection T runs (last r))
            ∙ listed_first h F D (not_last h.seat.family h.seat.round r).1 k l;
        settles = λ r. ends_last T runs (last r) ∙ ap (λ (s : Settled). end_settled s T) settled;
        offers = λ r. closes_last T runs (last r) ∙ ap (λ (s : Settled). offer_settled s T) settled;
      }

algorithm_cc : AlgorithmCC
algorithm_cc h R u runs D = follows h (record { proper = reached_proper R; runs = runs; unheard = u }) D

pub demand_2 : Demand2
demand_2 =
    record {
      proper = λ h R. reached_proper R;
      reads_back = λ h R o. spoken_reads_back h (reached_proper R);
      written_reads_back = λ h R buffer len e. written_reads_back h (reached_proper R) buffer e;
      only_frame = λ n p r k s t size B C a e. one_meaning n p r k t s size C B e refl a;
      algorithm = algorithm_cc;
      trusts = trusted_iff;
    }
