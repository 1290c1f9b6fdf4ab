-- Whether the ring has agreed when the pending round is played: as before, if no end was played or it had agreed before; else as the positions at that end are one, and
-- then these are made one in all places.
use Rattle.std.specs.Prelude.{None, Some}
use mathlib.Core.Path.{◌≡◌, refl, ap, ap₂, sym, subst, ◌∙◌}
use mathlib.Core.Bool.{Bool, true, false, true≢false}
use mathlib.Core.List.{List, ◌∷◌}
use Prim.Native.Nat.{ℕ}
use lib.ListN.{get_or, get_or-replicate}
use lib.IntN.{ℤ, pos}
use Rattle.terms.specs.Sizes.{ends_with}
use Rattle.terms.specs.Entry.{Entry}
use Rattle.terms.specs.Counting.{Each}
use Rattle.ring_spec.specs.Rounds.{receivers, as_end, ends_phase, after_round, ring_after}
use Rattle.ring_spec.specs.Agreed.{common, held_by_all, is_agreed}
use Rattle.run_spec.specs.RunFile.{File, read_file, ring_from}
use Rattle.run_spec.proofs.Reached.{taken}
use Rattle.run_listing.specs.Held.{end_in}
use Rattle.run_listing.specs.Level.{levelled}
use Rattle.run_listing.proofs.Lowest.{found_held}
use Rattle.run_state.specs.declared.Player.{Player}
use Rattle.run_state.specs.Memory.{Memory, with_positions}
use Rattle.run_state.specs.State.{ring_before, agreed_before, PlayerOf}
use Rattle.run_round.specs.Agrees.{ring_after_all, agreed_after_all, HoldsAll, Agrees}
use Rattle.run_round.proofs.Keeping.{end_keeps}
use Rattle.run_round.proofs.Waiting.{ends_as, waiting_playable}
use Rattle.run_round.proofs.Converging.{phase_end_as, held_at_end}
use Rattle.run_round.proofs.Agreeing.{agreed_stays, unplayed_same, opened_same, agreed_there, agreed_end, e, ends_with_lem}
use Rattle.run_round.proofs.Rounds.{not_agreed}

-- two names of a position
same_position : {u v : ℤ} → Some u ≡ Some v → u ≡ v
same_position p = cc

module _ (a : List ℕ) {p : Player} (M : Memory) {positions : List ℤ} (begun : (read_file a).setup.begun ≡ true) (T : PlayerOf p (read_file a))
    (H : HoldsAll (read_file a) (agreed_before (read_file a)) (with_positions M positions)) where
  abbrev F : File
  F = read_file a

  -- nothing more is agreed
  as_before : {r : Bool} → agreed_after_all F ≡ agreed_before F → p.agreed ≡ r → Agrees F r (with_positions M positions)
  as_before same is =
      record { is = ap is_agreed same ∙ T.agreed ∙ is; holds = subst (λ (A : Entry). HoldsAll F A (with_positions M positions)) (sym same) H }

  pub still_agreed : p.agreed ≡ true → Agrees F true (with_positions M positions)
  still_agreed agreed = as_before (go (agreed_before F) refl (T.agreed ∙ agreed)) agreed
    where
      go : (A : Entry) → agreed_before F ≡ A → is_agreed A ≡ true → agreed_after_all F ≡ agreed_before F
      go None b t = absurd (true≢false (sym t))
      go (Some u) b t = agreed_stays F b ∙ sym b

  module _ (fresh : p.agreed ≡ false) where
    pub none_pending : p.pending ≡ false → Agrees F false (with_positions M positions)
    none_pending none = as_before (unplayed_same F (T.pending ∙ none)) fresh

    module _ (pending : p.pending ≡ true) where
      pub none_ended : ends_phase p.family p.given ≡ false → Agrees F false (with_positions M positions)
      none_ended opens = as_before (opened_same F (T.pending ∙ pending) (ends_as T (T.pending ∙ pending) opens)) fresh

      -- at a phase end
      module _ (ends : ends_phase p.family p.given ≡ true) where
        waits : F.rounds.pending ≡ true
        waits = T.pending ∙ pending

        last : ends_with F.setup.family (ring_before F).round ≡ true
        last = ends_as T waits ends

        abbrev E : Entry
        E = held_by_all (end_in p.n p.listeners p.struck positions)

        stopped : (ring_after_all F).round ≡ 0
        unfolding ring_after after_round
        stopped = rw (waits, last)

        -- what all hold at this end is seen in the memory
        seen : held_by_all (as_end F.setup.n F.setup.listeners (e F)) ≡ E
        seen =
            let held = held_at_end true a begun H.keeps stopped (e F) (ends_with_lem F (taken a begun) waits last) in
            let found = found_held F.setup.n F.setup.listeners (e F).struck (λ i. ((e F).heads i).seat.position) positions (λ i l r q. held i l (rw (r, q) refl)) in
            let (heads, struck) = phase_end_as F.setup.family (ring_before F).before F.rounds.last.struck (ring_from F.setup (F.rounds.last ∷ F.rounds.played)).heads in
            ap₂ common found.is_low found.is_high ∙ (λ t. held_by_all (end_in (T.n t) (T.listeners t) ((struck ∙ T.struck) t) positions))

        agreed_is : agreed_after_all F ≡ E
        agreed_is = agreed_there F (taken a begun) waits last (not_agreed (agreed_before F) (T.agreed ∙ fresh)) ∙ seen

        pub at_end : {r : Bool} (new : List ℤ) → r ≡ is_agreed E → new ≡ levelled E positions → Agrees F r (with_positions M new)
        unfolding ring_after
        at_end new is New-is =
            record {
              is = ap is_agreed agreed_is ∙ sym is;
              holds = subst (λ (A : Entry). HoldsAll F A (with_positions M new)) (sym agreed_is) (go E refl New-is);
            }
          where
            go : (x : Entry) → E ≡ x → new ≡ levelled x positions → HoldsAll F x (with_positions M new)
            go None z same =
                rw same (subst (λ (A : Entry). HoldsAll F A (with_positions M positions)) (not_agreed (agreed_before F) (T.agreed ∙ fresh)) H)
            go (Some u) z same =
                let level : Each receivers (λ i. get_or new i (pos 0) ≡ u) = λ i l. rw same (get_or-replicate receivers i u (pos 0) l) in
                let held = agreed_end F (taken a begun) waits last (with_positions M new) (agreed_is ∙ z) level in
                record {
                  keeps =
                      rw waits
                      (end_keeps F.setup.family F.setup.n F.setup.listeners F.setup.f (ring_before F) F.rounds.last (with_positions M new)
                      (waiting_playable F (taken a begun) waits).ready last held (Some u));
                  level = λ v q i l. level i l ∙ same_position q;
                }
