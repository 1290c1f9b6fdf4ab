-- `camera::focus_midpoint_kept` meets its contract: it passes on what `midpoint` promises.
use mathlib.Core.Path.{refl}
use Rattle.terms.proofs.Refusals.{given_out}
use Rattle.settle_midpoint.specs.Answers.{settled_number}
use Rattle.camera.specs.Out.{kept_or}
use Rattle.camera.proofs.focus_midpoint_kept.Goals as goal

pub returns : goal.returns
returns c =
    let put = c.put_kept.ensures in
    let out = given_out settled_number kept_or put.0 put.1 c.midpoint-settled.ensures refl in
    record { number = out.0; result = out.1 }
