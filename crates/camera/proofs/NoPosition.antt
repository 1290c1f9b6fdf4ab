-- What C reads off where 0 is returned: -2^31 is no position, so it stands there only if no position in range brings the wanted one, and any other number is the
-- lowest that does.
use Rattle.std.specs.Prelude.{Option, Ok}
use mathlib.Core.Path.{◌≡◌, sym, subst}
use mathlib.Core.List.{List}
use Prim.Native.Nat.{ℕ}
use native.Mathlib.Omega.{arith}
use lib.IntN.{ℤ}
use Rattle.terms.specs.Positions.{Within, rounding}
use Rattle.terms.proofs.Whole.{position_within}
use Rattle.settle_midpoint.specs.Call.{entries_given}
use Rattle.terms.specs.declared.Family.{Family}
use Rattle.settle_reach.specs.Reached.{Reached}
use Rattle.convergence.specs.Settling.{rule_of}
use Rattle.settle_reach.specs.Reach.{EntryBrings, Lowest, Found}
use Rattle.settle_reach.specs.Reach.Found.{set, none}
use Rattle.settle_reach.specs.Call.{ReachAnswer}
use Rattle.settle_reach.specs.Call.ReachAnswer.{refused, found}
use Rattle.camera.specs.Out.{no_step, reached_number, reached_or, PositionLent}

module _ (K : Family) (n f p j m : ℕ) (s : List ℕ) (x old : ℤ) where
  abbrev P : ℤ → Type 0
  P = EntryBrings (rounding p) n (rule_of K f) (entries_given n m s) j x

  none_found : (a : Option ℤ) → Found P a → no_step ≡ reached_or (Ok a) old → (w : ℤ) → P w → ⊥
  none_found _ (set u l) e w q = (subst (Within 1_000_000) (sym e) (position_within u l.holds.0)).0.le
  none_found _ (none never) e w q = never w q

  none_told : (a : Reached) → ReachAnswer K n f p j m s x a → 0 ≡ reached_number a → no_step ≡ reached_or a old → (w : ℤ) → P w → ⊥
  none_told _ (refused c g) e l w q = absurd (omega (arith, e))
  none_told _ (found g a h) e l w q = none_found a h l w q

  set_found : (new : ℤ) (a : Option ℤ) → Found P a → new ≡ reached_or (Ok a) old → (new ≡ no_step → ⊥) → Lowest P new
  set_found new _ (set u l) e other = subst (Lowest P) (sym e) l
  set_found new _ (none never) e other = absurd (other e)

  set_told : (new : ℤ) (a : Reached) → ReachAnswer K n f p j m s x a → 0 ≡ reached_number a → new ≡ reached_or a old → (new ≡ no_step → ⊥) → Lowest P new
  set_told new _ (refused c g) e l other = absurd (omega (arith, e))
  set_told new _ (found g a h) e l other = set_found new a h l other

  pub no_position_means_none : PositionLent K n f p j m s x 0 old no_step → (w : ℤ) → P w → ⊥
  no_position_means_none h = none_told h.answer h.means h.number h.lent

  pub other_is_the_lowest : (new : ℤ) → PositionLent K n f p j m s x 0 old new → (new ≡ no_step → ⊥) → Lowest P new
  other_is_the_lowest new h = set_told new h.answer h.means h.number h.lent
