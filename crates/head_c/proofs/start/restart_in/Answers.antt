-- The checks are those of the call by value, and so is the seat where they pass.
use mathlib.Core.Path.{ap, ◌∙◌}
use mathlib.Core.Bool.{false}
use Prim.Native.Nat.{ℕ}
use Rattle.terms.specs.Refusals as refusal
use Rattle.terms.specs.Refusals.{check}
use Rattle.head_spec.specs.Seats.{healed_seat}
use Rattle.head_spec.specs.Calls.{restart_refusal, restarted, restart}
use Rattle.head_window.specs.Window.{restarted_registers}
use Rattle.head_c.specs.Blocks.{head_of, registers_of}
use Rattle.head_c.specs.Events.{block_after}
use Rattle.head_c.proofs.After.{restart_seat, fresh_left}
use Rattle.head_c.proofs.start.restart_in.Goals as goal

pub returns : goal.returns
unfolding block_after restart restart_refusal restarted
returns c =
    let a = c.args in
    let w = a.h.now in
    let checks = c.number_of-refused.ensures ∙ c.check_restart-checked.ensures in
    fresh_left w c.restart_seat-seat.result (healed_seat a.family a.n a.f a.number a.phase a.round) (head_of w)
    (λ (x : ℕ). restarted_registers x (registers_of w)) checks
    (c.after_restart-b.ensures ∙ ap (restarted_registers c.number_of-refused.result) c.registers_in.ensures) c.put_fresh.ensures
    (λ z. c.restart_seat-seat.ensures ∙ restart_seat a.family false a.n a.f a.number a.phase a.round z)
