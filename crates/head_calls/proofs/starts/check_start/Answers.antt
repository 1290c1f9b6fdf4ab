-- The member is checked before the position.
use mathlib.Core.Bool.{false}
use mathlib.Core.Path.{ap, sym, ◌∙◌}
use mir.Facts.{to_z-of_z}
use Rattle.terms.specs.Positions.{is_position}
use Rattle.terms.specs.Refusals as refusal
use Rattle.terms.specs.Refusals.{check}
use Rattle.terms.proofs.Refused.{number_ne, passed_number}
use Rattle.head_spec.specs.Calls.{start_refusal}
use Rattle.head_calls.proofs.Answers.{member_refused, member_taken}
use Rattle.head_calls.proofs.starts.check_start.Goals as goal

pub returns-in_err-check_member : goal.returns-in_err-check_member
unfolding start_refusal
returns-in_err-check_member c =
    let a = c.args in
    let e = c.in_err-check_member.field-0.0 in
    let h = c.in_err-check_member.ensures in
    passed_number e c.from_residual.result c.from_residual.ensures.1
    (h ∙ member_refused a.family false a.n a.f a.number (check (is_position a.position) refusal.position_out_of_range 0) (λ q. number_ne e (h ∙ q)))

pub returns-then-not-is_position : goal.returns-then-not-is_position
unfolding start_refusal
returns-then-not-is_position c =
    let a = c.args in
    let range = sym (c.is_position.ensures ∙ ap is_position (to_z-of_z c.ranges.position)) ∙ c.if-not-is_position.true in
    sym (member_taken a.family false a.n a.f a.number (check (is_position a.position) refusal.position_out_of_range 0) (sym c.in_ok-check_member.ensures) ∙ rw range)

pub returns : goal.returns
unfolding start_refusal
returns c =
    let a = c.args in
    let range = sym (c.is_position.ensures ∙ ap is_position (to_z-of_z c.ranges.position)) ∙ c.if-not-is_position.false in
    sym (member_taken a.family false a.n a.f a.number (check (is_position a.position) refusal.position_out_of_range 0) (sym c.in_ok-check_member.ensures) ∙ rw range)
