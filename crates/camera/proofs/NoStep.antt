-- What C reads off where 0 is returned: -2^31 is no position, so it stands there only if no step in range reads so, and any other number is the step that does.
use mathlib.Core.Path.{◌≡◌, sym, subst}
use Prim.Native.Nat.{ℕ}
use native.Mathlib.Omega.{arith}
use lib.IntN.{ℤ}
use Rattle.terms.specs.Positions.{Within}
use Rattle.steps.specs.Unscale.{ReadsAs, UnscaleAnswer}
use Rattle.steps.specs.Unscale.UnscaleAnswer.{refused, step, none}
use Rattle.steps.specs.Answers.{Unscaled}
use Rattle.terms.proofs.Whole.{position_within}
use Rattle.camera.specs.Out.{no_step, step_number, step_or, StepLent}

module _ (x : ℤ) (a d : ℕ) (old : ℤ) where
  none_told : (s : Unscaled) → UnscaleAnswer x a d s → 0 ≡ step_number s → no_step ≡ step_or s old → (v : ℤ) → ReadsAs a d x v → ⊥
  none_told _ (refused f) e l v r = omega (arith, e)
  none_told _ (step s w q) e l v r = (subst (Within 1_000_000) (sym l) (position_within w q.0)).0.le
  none_told _ (none s n) e l v r = n v r

  step_told : (new : ℤ) (s : Unscaled) → UnscaleAnswer x a d s → 0 ≡ step_number s → new ≡ step_or s old → (new ≡ no_step → ⊥) → ReadsAs a d x new
  step_told new _ (refused f) e l other = absurd (omega (arith, e))
  step_told new _ (step s w q) e l other = subst (ReadsAs a d x) (sym l) q
  step_told new _ (none s n) e l other = absurd (other l)

  pub no_step_means_none : StepLent x a d 0 old no_step → (v : ℤ) → ReadsAs a d x v → ⊥
  no_step_means_none h = none_told h.answer h.means h.number h.lent

  pub other_is_the_step : (new : ℤ) → StepLent x a d 0 old new → (new ≡ no_step → ⊥) → ReadsAs a d x new
  other_is_the_step new h = step_told new h.answer h.means h.number h.lent
