-- `camera::put_kept` meets its contract, case by case.
use mathlib.Core.Path.{refl, ap}
use native.Mathlib.Omega.{arith}
use borrow.Author.Rules.{rules}
use Rattle.settle_midpoint.proofs.Stored.{stored}
use Rattle.settle_midpoint.specs.Answers.{settled_number}
use Rattle.camera.specs.Out.{kept_or}
use Rattle.terms.proofs.Refusals.{given_out}
use Rattle.terms.specs.Refused.{numbered}
use Rattle.camera.proofs.put_kept.Goals as goal

pub returns-in-Err : goal.returns-in-Err
returns-in-Err c = given_out settled_number kept_or c.number.ensures refl refl (ap numbered c.in-Err.is)

pub returns-in-Ok : goal.returns-in-Ok
returns-in-Ok c =
    let k = c.in-Ok.k in
    given_out settled_number kept_or refl
    (stored {low = k.low} {high = k.high} {position = k.position} k.trim (record { sfits = omega arith }) (record { sfits = omega arith }) (search rules) (record { sfits = omega arith }))
    refl
    (ap numbered c.in-Ok.is)
