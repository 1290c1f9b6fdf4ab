-- What is settled is offered.
use mathlib.Core.Path.{ap, ◌∙◌}
use Prim.Native.Nat.{ℕ}
use Rattle.settle_midpoint.specs.Settled.{Settled}
use Rattle.head_spec.specs.declared.Closed.{Closed}
use Rattle.head_spec.specs.Calls.{closing, offer_settled}
use Rattle.head_calls.proofs.closing.close_last.Goals as goal

pub returns-in-Err : goal.returns-in-Err
returns-in-Err c =
    ap (λ (x : ℕ). closing (Closed.Refused x) c.args.h) c.number.ensures ∙ ap (λ (s : Settled). offer_settled s c.args.h) c.in-Err.ensures

pub returns-in-Ok : goal.returns-in-Ok
returns-in-Ok c = ap (λ (s : Settled). offer_settled s c.args.h) c.in-Ok.ensures
