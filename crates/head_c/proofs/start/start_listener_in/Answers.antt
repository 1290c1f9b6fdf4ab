-- The checks are those of the call by value, and so is the seat where they pass.
use Rattle.std.specs.Prelude.{None}
use mathlib.Core.Path.{ap, ◌∙◌}
use mathlib.Core.Bool.{true}
use Prim.Native.Nat.{ℕ}
use Rattle.terms.specs.Entry.{Entry}
use Rattle.head_spec.specs.Seats.{first_seat}
use Rattle.head_spec.specs.Calls.{start_listener_refusal, started_listener, start_listener}
use Rattle.head_window.specs.Window.{started_registers}
use Rattle.head_c.specs.Blocks.{head_of, registers_of}
use Rattle.head_c.specs.Events.{block_after}
use Rattle.head_c.proofs.After.{first_seat_lem, fresh_left}
use Rattle.head_c.proofs.start.start_listener_in.Goals as goal

pub returns : goal.returns
unfolding block_after start_listener start_listener_refusal started_listener
returns c =
    let a = c.args in
    let w = a.h.now in
    fresh_left w c.first_seat-seat.result (first_seat a.family a.n a.f a.number None) (head_of w) (λ (x : ℕ). started_registers x (registers_of w)) (c.number_of-refused.ensures ∙ c.check_member.ensures)
    (c.after_start-b.ensures ∙ ap (started_registers c.number_of-refused.result) c.registers_in.ensures) c.put_fresh.ensures
    (λ z. c.first_seat-seat.ensures ∙ first_seat_lem a.family true a.n a.f a.number 0 None z)
