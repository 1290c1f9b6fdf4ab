-- What an unstruck receiver's record is when the round is closed: after collection its list stands, and after confession, if enough entries are
-- trusted, it holds the midpoint of what it trusts, with the range that was kept. Either way the next round can open, up to the last phase.
use Rattle.std.specs.Prelude.{Some}
use mathlib.Core.Path.{◌≡◌, refl, ap, ap₂, sym, subst, ◌∙◌}
use mathlib.Core.Bool.{Bool, true, false}
use Prim.Native.Nat.{ℕ, ◌+◌, ◌<◌}
use native.Mathlib.Omega.{arith}
use borrow.Author.Tests.{lt-leb}
use Rattle.terms.specs.Sizes.{rounds_of, ends_with}
use Rattle.terms.specs.declared.Family.{Family}
use Rattle.marks.specs.Marks.{bit_of}
use Rattle.convergence.specs.Settling.{nulls, rule_of, ordered, midpoint, enough}
use Rattle.terms.specs.Positions.{rounding}
use Rattle.settle_midpoint.specs.Answers.{kept}
use Rattle.head_spec.specs.declared.Head.{Head}
use Rattle.head_spec.specs.declared.Closed.{Closed}
use Rattle.head_spec.specs.declared.Closing.{Closing}
use Rattle.head_spec.specs.Record.{entries_by}
use Rattle.head_spec.specs.Calls.{closing, closed_collection, closed_phase, is_last_round, end_round}
use Rattle.head_spec.proofs.Proper.{first_round}
use Rattle.head_spec.proofs.Offers.{offer_then_adopt}
use Rattle.head_spec.proofs.RoundEnd.{not_last, settled_by, ends_collection, ends_phase_lem, settled_midpoint, fresh_collection, fresh_phase}
use Rattle.ring_spec.specs.Rounds.{Round, Ring, closed_at, phase_then, round_then, after_round}
use Rattle.ring_spec.proofs.Receivers.{Hears}
use Rattle.ring_spec.proofs.OneRound.{SeatedAt, Ready, RingReady, heard_at, heard_proper, heard_at_lem}

module _ (K : Family) (n f : ℕ) (R : Ring) (w : Round) (S : RingReady K n f R) where
  module _ (i : ℕ) (l : Hears n i) (q : bit_of w.struck i ≡ false) where
    abbrev T : Head
    T = heard_at K n f R w i

    A : SeatedAt K n f i R.phase R.round (bit_of R.before i) T.seat
    A = heard_at_lem K n f R w S i l q

    closed_is : (c : Closed) (h : Head) → end_round T ≡ closing c h → closed_at K n f R w i ≡ h
    unfolding closed_at
    closed_is c h e = rw q (ap (λ (x : Closing). x.head) (offer_then_adopt T ∙ e))

    -- the round of the record is that of the ring
    last_round : {b : Bool} → ends_with K R.round ≡ b → is_last_round T.seat ≡ b
    last_round e = ap₂ ends_with A.family A.round ∙ e

    module _ (collection : ends_with K R.round ≡ false) where
      pub collection_closes : end_round T ≡ closing Closed.Listed (closed_collection T)
      collection_closes = ends_collection T A.runs (last_round collection)

      pub collection_closed : closed_at K n f R w i ≡ closed_collection T
      collection_closed = closed_is Closed.Listed (closed_collection T) collection_closes

      pub collection_ready : Ready K n f i R.phase 1 false (closed_at K n f R w i)
      unfolding closed_collection
      collection_ready =
          rw collection_closed
          (record {
            fresh = fresh_collection T (heard_proper K n f R w S i l q) (last_round collection);
            seat =
                record { family = A.family; count = A.count; limit = A.limit; number = A.number; phase = A.phase; round = refl; healed = refl; runs = refl };
          })

    -- the last round of a phase, in which there are enough entries
    module _ (confession : ends_with K R.round ≡ true) (calm : enough n (rule_of K f) (entries_by K T) ≡ true) where
      pub confession_closes : end_round T ≡ closing (Closed.Settled (settled_by T)) (closed_phase T (settled_by T))
      confession_closes = ends_phase_lem T A.runs (last_round confession)
          ((λ t. enough (A.count t) (rule_of (A.family t) (A.limit t)) (entries_by (A.family t) T)) ∙ calm)

      pub confession_closed : closed_at K n f R w i ≡ closed_phase T (settled_by T)
      confession_closed = closed_is (Closed.Settled (settled_by T)) (closed_phase T (settled_by T)) confession_closes

      pub confession_settles : (closed_at K n f R w i).seat.position ≡ Some (midpoint (rounding R.phase) n (rule_of K f) (entries_by K T))
      unfolding closed_phase
      confession_settles =
          ap (λ (x : Head). x.seat.position) confession_closed ∙ ap Some (settled_midpoint T)
          ∙ (λ t. Some (midpoint (rounding (A.phase t)) (A.count t) (rule_of (A.family t) (A.limit t)) (entries_by (A.family t) T)))

      -- with the kept range and the trim
      pub confession_keeps : let E = entries_by K T in
          (closed_at K n f R w i).seat.kept ≡ Some (kept (rounding R.phase) ((rule_of K f).trim (nulls n E)) (ordered n E))
      unfolding closed_phase
      confession_keeps = ap (λ (x : Head). x.seat.kept) confession_closed
          ∙ (λ t. let E = entries_by (A.family t) T in
          Some (kept (rounding (A.phase t)) ((rule_of (A.family t) (A.limit t)).trim (nulls (A.count t) E)) (ordered (A.count t) E)))

      pub confession_ready : R.phase < 65535 → Ready K n f i (R.phase + 1) 0 false (closed_at K n f R w i)
      unfolding closed_phase
      confession_ready more =
          let p : T.seat.phase ≡ R.phase = A.phase in
          let runs = lt-leb 65535 T.seat.phase (omega arith) in
          rw confession_closed
          (record {
            fresh = fresh_phase T (heard_proper K n f R w S i l q) (omega arith);
            seat =
                record {
                  family = A.family;
                  count = A.count;
                  limit = A.limit;
                  number = A.number;
                  phase = rw (runs, p);
                  round = rw runs;
                  healed = refl;
                  runs = runs;
                };
          })

  -- ---- the ring

  abbrev next : Ring
  next = after_round K n f R w

  pub after_collection : ends_with K R.round ≡ false → (next.phase ≡ R.phase) × (next.round ≡ 1)
  unfolding after_round
  after_collection c = (ap (λ (b : Bool). phase_then b R.phase) c, ap round_then c)

  pub after_confession : ends_with K R.round ≡ true → (next.phase ≡ R.phase + 1) × (next.round ≡ 0)
  unfolding after_round
  after_confession c = (ap (λ (b : Bool). phase_then b R.phase) c, ap round_then c)

  -- record i of the next ring
  next_head : (i : ℕ) (b : Bool) → ends_with K R.round ≡ b → Ready K n f i (phase_then b R.phase) (round_then b) false (closed_at K n f R w i)
      → Ready K n f i (phase_then (ends_with K R.round) R.phase) (round_then (ends_with K R.round)) false (closed_at K n f R w i)
  next_head i b c H = subst (λ (x : Bool). Ready K n f i (phase_then x R.phase) (round_then x) false (closed_at K n f R w i)) (sym c) H

  pub collection_next : ends_with K R.round ≡ false → RingReady K n f next
  unfolding after_round
  collection_next c =
      let (p, r) = after_collection c in
      let rounds : rounds_of K ≡ 2 = ap rounds_of (not_last K R.round c).0 in
      record {
        size = S.size;
        from_first = omega (arith, S.from_first);
        to_last = omega (arith, S.to_last);
        round = omega arith;
        heads = λ i l q. next_head i false c (collection_ready i l q c);
      }

  pub confession_next : ends_with K R.round ≡ true
      → ((i : ℕ) → Hears n i → bit_of w.struck i ≡ false → enough n (rule_of K f) (entries_by K (heard_at K n f R w i)) ≡ true) → R.phase < 65535 → RingReady K n f next
  unfolding after_round
  confession_next c calm more =
      let (p, r) = after_confession c in
      let some = first_round K in
      record {
        size = S.size;
        from_first = omega arith;
        to_last = omega arith;
        round = omega arith;
        heads = λ i l q. next_head i true c (confession_ready i l q c (calm i l q) more);
      }
