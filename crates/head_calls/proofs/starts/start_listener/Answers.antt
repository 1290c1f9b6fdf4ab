-- A start that holds no position, under a listener's number.
use mathlib.Core.Path.{sym}
use Rattle.head_spec.specs.Calls.{start_listener_refusal, started_listener, start_listener}
use Rattle.head_spec.proofs.Stops.{listener_starts_anew}
use Rattle.head_calls.proofs.Answers.{passed_answer}
use Rattle.head_calls.proofs.starts.start_listener.Goals as goal

pub returns-in_err-check_member : goal.returns-in_err-check_member
unfolding start_listener start_listener_refusal
returns-in_err-check_member c h =
    passed_answer h _ c.in_err-check_member.field-0.0 c.from_residual.result c.from_residual.ensures.1 c.in_err-check_member.ensures

pub returns : goal.returns
unfolding started_listener start_listener_refusal
returns c h =
    let a = c.args in
    rw c.started.ensures (sym (listener_starts_anew h a.family a.n a.f a.number (sym c.in_ok-check_member.ensures)))
