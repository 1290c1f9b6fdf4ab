-- `steps::unscale` meets its contract: no step in range reads farther from zero than 10^12.
use mathlib.Core.Path.{sym, ◌∙◌, subst}
use Prim.Native.Nat.{ℕ}
use lib.IntN.{ℤ}
use mir.Syntax.{w64}
use mir.Val.{SFits}
use mir.Facts.{to_z-of_z}
use Rattle.steps.specs.Unscale.{UnscaleAnswer}
use Rattle.steps.specs.Unscale.UnscaleAnswer.{refused}
use Rattle.steps.specs.Answers.{Unscaled}
use Rattle.terms.proofs.Machine.{read}
use Rattle.steps.proofs.NoStep.{near, far_below, far_above}
use Rattle.steps.proofs.unscale.Goals as goal

-- an answer for the reading as the machine reads it
answers : {x : ℤ} {a d : ℕ} {s : Unscaled} → SFits w64 x → UnscaleAnswer (read w64 x) a d s → UnscaleAnswer x a d s
answers {x} {a} {d} {s} f = subst (λ (y : ℤ). UnscaleAnswer y a d s) (to_z-of_z f)

pub returns-then-nanometres-ltminus1000000000000 : goal.returns-then-nanometres-ltminus1000000000000
returns-then-nanometres-ltminus1000000000000 c = answers c.ranges.nanometres (far_below _ _ _ (sym c.is_scale.ensures ∙ c.if-is_scale.true) c.if-nanometres-ltminus1000000000000.true)

pub returns-then-nanometres-gt1000000000000 : goal.returns-then-nanometres-gt1000000000000
returns-then-nanometres-gt1000000000000 c = answers c.ranges.nanometres (far_above _ _ _ (sym c.is_scale.ensures ∙ c.if-is_scale.true) c.if-nanometres-gt1000000000000.true)

pub step_near-requires : goal.step_near-requires
step_near-requires c = (near _ c.if-nanometres-ltminus1000000000000.false c.if-nanometres-gt1000000000000.false, sym c.is_scale.ensures ∙ c.if-is_scale.true)

pub returns-then-is_scale : goal.returns-then-is_scale
returns-then-is_scale c = answers c.ranges.nanometres c.step_near.ensures

pub returns : goal.returns
returns c = refused (sym c.is_scale.ensures ∙ c.if-is_scale.false)
