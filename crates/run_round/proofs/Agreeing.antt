-- A ring that has agreed: at the end of the phase that the pending round ends, each receiver that it does not strike holds the position on which the ring agreed,
-- by demand 3 of every run file. Whether it agrees at that end is seen in the positions that the memory holds.
use Rattle.std.specs.Prelude.{None, Some}
use mathlib.Core.Path.{◌≡◌, refl, ap, sym, ◌∙◌}
use mathlib.Core.Bool.{Bool, true, false}
use mathlib.Core.List.{List, [], ◌∷◌}
use Prim.Native.Nat.{ℕ, ◌<◌}
use native.Mathlib.Omega.{arith}
use lib.ListN.{length, get_or}
use lib.IntN.{ℤ, pos}
use Rattle.terms.specs.Sizes.{ends_with}
use Rattle.terms.specs.declared.Family.{Family}
use Rattle.terms.specs.Counting.{Each}
use Rattle.head_spec.specs.declared.Head.{Head}
use Rattle.ring_spec.specs.Rounds.{Round, PhaseEnd, phase_end, receivers, as_end, with_end, ring_after, ends_after}
use Rattle.ring_spec.specs.Agreed.{agreed_on, held_by_all}
use Rattle.ring_spec.proofs.Agreed.{agreed_held}
use Rattle.run_spec.specs.RunFile.{File, then_played, all_rounds, ends_from, ring_from}
use Rattle.run_spec.proofs.Reached.{Reached}
use Rattle.run_spec.proofs.Demand3.{played_converges}
use Rattle.run_state.specs.Memory.{Memory}
use Rattle.run_state.specs.State.{ring_before, agreed_before}
use Rattle.run_round.specs.Agrees.{agreed_after_all}
use Rattle.run_round.proofs.Keeping.{no_position, EndHeld}
use Rattle.run_round.proofs.Converging.{phase_end_as}

-- what was agreed stays, whatever end comes
pub agreed_next : (n m : ℕ) (e : PhaseEnd) (es : List PhaseEnd) {u : ℤ} → agreed_on n m es ≡ Some u → agreed_on n m (e ∷ es) ≡ Some u
unfolding agreed_on
agreed_next n m e [] a = no_position a
agreed_next n m e (d ∷ es) a = rw a

-- and before, the end that comes decides
agreed_here : (n m : ℕ) (e : PhaseEnd) (es : List PhaseEnd) → 0 < length es → agreed_on n m es ≡ None → agreed_on n m (e ∷ es) ≡ held_by_all (as_end n m e)
unfolding agreed_on
agreed_here n m e [] some a = absurd (omega arith)
agreed_here n m e (d ∷ es) some a = rw a

-- the start is an end
some_end : (K : Family) (n f : ℕ) (v : ℕ → ℤ) (ws : List Round) → 0 < length (ends_after K n f v ws)
unfolding ends_after
some_end K n f v [] = omega arith
some_end K n f v (w ∷ ws) = go (ends_with K (ring_after K n f v ws).round) (some_end K n f v ws)
  where
    go : (b : Bool) → 0 < length (ends_after K n f v ws)
        → 0 < length (with_end b (phase_end K (ring_after K n f v ws).before w.struck (ring_after K n f v (w ∷ ws)).heads) (ends_after K n f v ws))
    go false l = l
    go true l = omega arith

module _ (F : File) where
  abbrev es : List PhaseEnd
  es = ends_from F.setup F.rounds.played

  -- the end that the pending round makes, if it makes one
  abbrev pub e : PhaseEnd
  e = phase_end F.setup.family (ring_before F).before F.rounds.last.struck (ring_from F.setup (F.rounds.last ∷ F.rounds.played)).heads

  pub agreed_stays : {u : ℤ} → agreed_before F ≡ Some u → agreed_after_all F ≡ Some u
  unfolding ends_after
  agreed_stays {u} a = all F.rounds.pending
    where
      ended : (b : Bool) → agreed_on F.setup.n F.setup.listeners (with_end b e es) ≡ Some u
      ended false = a
      ended true = agreed_next F.setup.n F.setup.listeners e es a

      all : (b : Bool) → agreed_on F.setup.n F.setup.listeners (ends_from F.setup (then_played b F.rounds.played F.rounds.last)) ≡ Some u
      all false = a
      all true = ended (ends_with F.setup.family (ring_before F).round)

  -- no end more
  pub unplayed_same : F.rounds.pending ≡ false → agreed_after_all F ≡ agreed_before F
  unplayed_same none = rw none

  module _ (pending : F.rounds.pending ≡ true) where
    pub opened_same : ends_with F.setup.family (ring_before F).round ≡ false → agreed_after_all F ≡ agreed_before F
    unfolding ends_after
    opened_same first = rw (pending, first)

  module _ (I : Reached F) (pending : F.rounds.pending ≡ true) (last : ends_with F.setup.family (ring_before F).round ≡ true) where
    pub ends_with_lem : ends_from F.setup (all_rounds F.rounds) ≡ e ∷ es
    unfolding ends_after
    ends_with_lem = rw (pending, last)

    -- it agrees at this end if its receivers do
    pub agreed_there : agreed_before F ≡ None → agreed_after_all F ≡ held_by_all (as_end F.setup.n F.setup.listeners e)
    agreed_there none =
        ap (agreed_on F.setup.n F.setup.listeners) ends_with_lem
        ∙ agreed_here F.setup.n F.setup.listeners e es (some_end F.setup.family F.setup.n F.setup.f F.setup.first F.rounds.played) none

    pub agreed_end : (M : Memory) {u : ℤ} → agreed_after_all F ≡ Some u → Each receivers (λ i. get_or M.positions i (pos 0) ≡ u)
        → EndHeld F.setup.family F.setup.n F.setup.listeners F.setup.f (ring_before F) F.rounds.last M
    unfolding ring_after
    agreed_end M a level i l r q =
        let A = rw ends_with_lem at (played_converges F I true) in
        let held = agreed_held F.setup.family F.setup.n F.setup.listeners F.setup.f (e ∷ es) A (rw ends_with_lem at a) in
        let (heads, struck) = phase_end_as F.setup.family (ring_before F).before F.rounds.last.struck (ring_from F.setup (F.rounds.last ∷ F.rounds.played)).heads in
        let at_end = held i l (rw (struck, r, q) refl) in
        sym (ap (λ (h : ℕ → Head). (h i).seat.position) heads) ∙ at_end ∙ ap Some (sym (level i l))
