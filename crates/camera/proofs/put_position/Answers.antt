-- `camera::put_position` meets its contract, case by case.
use mathlib.Core.Path.{refl, ap}
use mir.Syntax.{w32}
use mir.Facts.{to_z-of_z}
use native.Mathlib.Omega.{arith}
use Rattle.settle_midpoint.specs.Answers.{settled_number}
use Rattle.camera.specs.Out.{settled_or}
use Rattle.terms.proofs.Refusals.{given_out}
use Rattle.terms.specs.Refused.{numbered}
use Rattle.camera.proofs.put_position.Goals as goal

pub returns-in-Err : goal.returns-in-Err
returns-in-Err c = given_out settled_number settled_or c.number.ensures refl refl (ap numbered c.in-Err.is)

pub returns-in-Ok : goal.returns-in-Ok
returns-in-Ok c =
    given_out settled_number settled_or refl (to_z-of_z {w = w32} {z = c.in-Ok.kept.position} (record { sfits = omega arith })) refl (ap numbered c.in-Ok.is)
