-- A refusal of the link stands whatever its frame says, and else the frame decides. Past the checks the link's number is below n, a byte.
use mathlib.Core.Path.{sym, ◌∙◌, ap}
use mathlib.Core.Bool.{not}
use native.Mathlib.Omega.{arith}
use lib.Dec.{ltb}
use borrow.Author.Tests.{ltb-true}
use Rattle.terms.proofs.Refusals.{refuses}
use Rattle.terms.proofs.Refused.{number_ne}
use Rattle.frame_spec.specs.declared.Said.{Said}
use Rattle.frame_spec.specs.Said.{refused, said_of}
use Rattle.head_spec.proofs.Proper.{both_passed}
use Rattle.head_hear.proofs.said_on.Goals as goal

pub returns-in-Err : goal.returns-in-Err
returns-in-Err c =
    let h = c.in-Err.ensures in
    ap Said.Refused (c.number.ensures ∙ h) ∙ ap said_of (refuses refused _ _ (λ q. number_ne c.in-Err.refusal (h ∙ q)))

pub overflow_cast-link : goal.overflow_cast-link
overflow_cast-link c =
    let a = c.args in
    omega (arith, ltb-true a.link a.n (both_passed (not a.ended) (ltb a.link a.n) 25 2 (sym c.in-Ok.ensures)).1)

pub returns-in-Ok : goal.returns-in-Ok
returns-in-Ok c = rw (sym c.in-Ok.ensures) c.read.ensures
