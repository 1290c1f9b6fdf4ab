-- Where the checks pass every number has room in the record, and it is opened with them.
use mathlib.Core.Path.{sym}
use native.Mathlib.Omega.{arith}
use Rattle.head_spec.specs.Calls.{restarted}
use Rattle.convergence.proofs.Demand3.{size_large}
use Rattle.head_spec.proofs.Proper.{rounds_few, number_small}
use Rattle.head_spec.proofs.Stops.{answer_taken}
use Rattle.head_calls.specs.Steps.{restart_as}
use Rattle.head_calls.proofs.Answers.{passed_answer, proper_restarted_as}
use Rattle.head_calls.proofs.starts.restart_as.Goals as goal

pub returns-in_err-check_restart : goal.returns-in_err-check_restart
unfolding restart_as
returns-in_err-check_restart c h =
    passed_answer h _ c.in_err-check_restart.field-0.0 c.from_residual.result c.from_residual.ensures.1 c.in_err-check_restart.ensures

pub overflow_cast-n : goal.overflow_cast-n
unfolding restarted
overflow_cast-n c =
    let a = c.args in
    omega (arith, (proper_restarted_as a.family a.listens a.n a.f a.number a.phase a.round (sym c.in_ok-check_restart.ensures)).seat.size.most)

pub overflow_cast-f : goal.overflow_cast-f
unfolding restarted
overflow_cast-f c =
    let a = c.args in
    let S = (proper_restarted_as a.family a.listens a.n a.f a.number a.phase a.round (sym c.in_ok-check_restart.ensures)).seat.size in
    omega (arith, S.most, size_large a.family _ _ S.limit)

pub overflow_cast-number : goal.overflow_cast-number
unfolding restarted
overflow_cast-number c =
    let a = c.args in
    omega (arith, number_small (proper_restarted_as a.family a.listens a.n a.f a.number a.phase a.round (sym c.in_ok-check_restart.ensures)).seat)

pub overflow_cast-phase : goal.overflow_cast-phase
unfolding restarted
overflow_cast-phase c =
    let a = c.args in
    omega (arith, (proper_restarted_as a.family a.listens a.n a.f a.number a.phase a.round (sym c.in_ok-check_restart.ensures)).seat.to_last)

pub overflow_cast-round : goal.overflow_cast-round
unfolding restarted
overflow_cast-round c =
    let a = c.args in
    omega (arith, (proper_restarted_as a.family a.listens a.n a.f a.number a.phase a.round (sym c.in_ok-check_restart.ensures)).seat.round, rounds_few a.family)

pub returns : goal.returns
unfolding restart_as restarted
returns c h =
    rw (c.opened.ensures, c.no_entries.ensures, c.healed_seat-seat.ensures) (sym (answer_taken _ h (sym c.in_ok-check_restart.ensures)))
