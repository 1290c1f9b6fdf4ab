-- A refusal of the size stands whatever is checked after it; if the size is taken, the number decides.
use mathlib.Core.Path.{sym, ◌∙◌}
use Rattle.terms.proofs.Sizes.{size_refused, size_taken}
use Rattle.terms.proofs.Refused.{number_ne, passed_number}
use Rattle.terms.specs.Refusals as refusal
use Rattle.terms.specs.Refusals.{check}
use Rattle.head_calls.specs.Steps.{is_member}
use Rattle.head_calls.proofs.starts.check_member.Goals as goal

pub returns-in_err-check_size : goal.returns-in_err-check_size
returns-in_err-check_size c =
    let a = c.args in
    let e = c.in_err-check_size.field-0.0 in
    let h = c.in_err-check_size.ensures in
    passed_number e c.from_residual.result c.from_residual.ensures.1
    (h ∙ size_refused a.family a.n a.f (check (is_member a.listens a.n a.number) refusal.number_too_high 0) (λ q. number_ne e (h ∙ q)))

pub returns-then-not-is_member : goal.returns-then-not-is_member
returns-then-not-is_member c =
    let a = c.args in
    rw (size_taken a.family a.n a.f (check (is_member a.listens a.n a.number) refusal.number_too_high 0) (sym c.in_ok-check_size.ensures), sym c.is_member.ensures ∙ c.if-not-is_member.true)

pub returns : goal.returns
returns c =
    let a = c.args in
    rw (size_taken a.family a.n a.f (check (is_member a.listens a.n a.number) refusal.number_too_high 0) (sym c.in_ok-check_size.ensures), sym c.is_member.ensures ∙ c.if-not-is_member.false)
