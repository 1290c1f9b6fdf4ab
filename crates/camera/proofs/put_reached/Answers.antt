-- `camera::put_reached` meets its contract, case by case.
use mathlib.Core.Path.{refl, ap, ◌∙◌}
use mir.Syntax.{w32}
use mir.Facts.{to_z-of_z}
use Rattle.camera.specs.Out.{reached_number, reached_or}
use Rattle.terms.proofs.Refusals.{given_out}
use Rattle.terms.specs.Refused.{numbered}
use Rattle.camera.proofs.Lent.{found_number, found_or}
use Rattle.camera.proofs.put_reached.Goals as goal

pub returns-in-Err : goal.returns-in-Err
returns-in-Err c = given_out reached_number reached_or c.number.ensures refl refl (ap numbered c.in-Err.is)

pub returns-in-Ok : goal.returns-in-Ok
returns-in-Ok c =
    let o = c.in-Ok.found in
    given_out reached_number reached_or (found_number o)
    (to_z-of_z {w = w32} {z = c.unwrap_or.result} (record { sfits = c.unwrap_or.type_inv }) ∙ c.unwrap_or.ensures ∙ found_or o _)
    refl
    (ap numbered c.in-Ok.is)
