-- `camera::focus_unscale` meets its contract: it passes on what `unscale` promises, case by case.
use mathlib.Core.Path.{◌≡◌, refl, subst, ap, ◌∙◌}
use Prim.Native.Nat.{ℕ}
use lib.IntN.{ℤ}
use mir.Syntax.{w32, w64}
use mir.Val.{SFits}
use mir.Facts.{to_z-of_z}
use Rattle.terms.proofs.Machine.{read}
use Rattle.steps.specs.Unscale.{UnscaleAnswer}
use Rattle.steps.specs.Answers.{Unscaled}
use Rattle.camera.specs.Out.{step_number, step_or, StepLent}
use Rattle.terms.specs.Refused.{numbered}
use Rattle.camera.proofs.Lent.{step_told, step_lent}
use Rattle.camera.proofs.focus_unscale.Goals as goal

-- what the call gave is an answer for the reading passed
is_answer : {x : ℤ} {a d : ℕ} {s : Unscaled} → SFits w64 x → UnscaleAnswer (read w64 x) a d s → UnscaleAnswer x a d s
is_answer {x} {a} {d} {s} f = subst (λ (y : ℤ). UnscaleAnswer y a d s) (to_z-of_z f)

-- and was found to be t
lent_out : {x : ℤ} {a d r : ℕ} {s t : Unscaled} {old new : ℤ} → UnscaleAnswer x a d s → s ≡ t → r ≡ step_number t → new ≡ step_or t old → StepLent x a d r old new
lent_out {x} {a} {d} {t} h e p q = record { answer = t; means = subst (UnscaleAnswer x a d) e h; number = p; lent = q }

pub returns-in-Err : goal.returns-in-Err
returns-in-Err c = lent_out (is_answer c.ranges.nanometres c.unscale-answer.ensures) (ap numbered c.in-Err.is) c.number.ensures refl

pub returns-in-Ok : goal.returns-in-Ok
returns-in-Ok c =
    let o = c.in-Ok.step in
    lent_out (is_answer c.ranges.nanometres c.unscale-answer.ensures) (ap numbered c.in-Ok.is) (step_told o)
    (to_z-of_z {w = w32} {z = c.unwrap_or.result} (record { sfits = c.unwrap_or.type_inv }) ∙ c.unwrap_or.ensures ∙ step_lent o _)
