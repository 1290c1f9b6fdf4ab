-- `camera::focus_limits` meets its contract: it passes on what `limits` promises, case by case.
use mathlib.Core.Path.{refl, ap}
use native.Mathlib.Omega.{arith}
use Rattle.camera.proofs.Lent.{range_lent, pair_stored}
use Rattle.terms.specs.Refused.{numbered}
use Rattle.camera.proofs.focus_limits.Goals as goal

pub returns-in-Err : goal.returns-in-Err
returns-in-Err c = range_lent c.limits-answer.ensures (ap numbered c.in-Err.is) c.number.ensures refl

pub returns-in-Ok : goal.returns-in-Ok
returns-in-Ok c =
    range_lent c.limits-answer.ensures (ap numbered c.in-Ok.is) refl
    (pair_stored {low = c.in-Ok.low} {high = c.in-Ok.high} (record { sfits = omega arith }) (record { sfits = omega arith }))
