-- `camera::focus_scale` meets its contract: it passes on what `scale` promises, case by case.
use mathlib.Core.Path.{◌≡◌, refl, ap, ◌∙◌}
use Prim.Native.Nat.{ℕ}
use lib.IntN.{ℤ}
use mir.Syntax.{w32, w64}
use mir.Val.{SFits}
use mir.Facts.{to_z-of_z}
use native.Mathlib.Omega.{arith}
use Rattle.terms.proofs.Machine.{read}
use Rattle.steps.specs.Scale.{scaled}
use Rattle.steps.specs.Answers.{Scaled}
use Rattle.camera.specs.Out.{scaled_number, scaled_or}
use Rattle.terms.proofs.Refusals.{given_out}
use Rattle.terms.specs.Refused.{numbered}
use Rattle.camera.proofs.focus_scale.Goals as goal

-- what the call gave is the scale of the steps passed
is_scaled : {v : ℤ} (a d : ℕ) {s : Scaled} → SFits w32 v → s ≡ scaled (read w32 v) a d → s ≡ scaled v a d
is_scaled a d f e = e ∙ ap (λ (z : ℤ). scaled z a d) (to_z-of_z f)

pub returns-in-Err : goal.returns-in-Err
returns-in-Err c =
    let out = given_out scaled_number scaled_or c.number.ensures refl (is_scaled _ _ c.ranges.steps c.scale-answer.ensures) (ap numbered c.in-Err.is) in
    record { number = out.0; result = out.1 }

pub returns-in-Ok : goal.returns-in-Ok
returns-in-Ok c =
    let out = given_out scaled_number scaled_or refl (to_z-of_z {w = w64} {z = c.in-Ok.x} (record { sfits = omega arith })) (is_scaled _ _ c.ranges.steps c.scale-answer.ensures) (ap numbered c.in-Ok.is) in
    record { number = out.0; result = out.1 }
