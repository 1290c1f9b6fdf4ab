-- The member is checked before phase and round.
use mathlib.Core.Path.{sym, ◌∙◌}
use Rattle.terms.specs.Refusals as refusal
use Rattle.terms.specs.Refusals.{check}
use Rattle.terms.proofs.Refused.{number_ne, passed_number}
use Rattle.head_spec.specs.Calls.{is_time}
use Rattle.head_calls.proofs.Answers.{member_refused, member_taken}
use Rattle.head_calls.proofs.starts.check_restart.Goals as goal

pub returns-in_err-check_member : goal.returns-in_err-check_member
returns-in_err-check_member c =
    let a = c.args in
    let e = c.in_err-check_member.field-0.0 in
    let h = c.in_err-check_member.ensures in
    passed_number e c.from_residual.result c.from_residual.ensures.1
    (h ∙ member_refused a.family a.listens a.n a.f a.number (check (is_time a.family a.phase a.round) refusal.phase_out_of_range 0) (λ q. number_ne e (h ∙ q)))

pub returns-then-not-is_time : goal.returns-then-not-is_time
returns-then-not-is_time c =
    let a = c.args in
    let time = sym c.is_time.ensures ∙ c.if-not-is_time.true in
    sym (member_taken a.family a.listens a.n a.f a.number (check (is_time a.family a.phase a.round) refusal.phase_out_of_range 0) (sym c.in_ok-check_member.ensures) ∙ rw time)

pub returns : goal.returns
returns c =
    let a = c.args in
    let time = sym c.is_time.ensures ∙ c.if-not-is_time.false in
    sym (member_taken a.family a.listens a.n a.f a.number (check (is_time a.family a.phase a.round) refusal.phase_out_of_range 0) (sym c.in_ok-check_member.ensures) ∙ rw time)
