-- The checks are those of the call by value, and so is the seat where they pass.
use Rattle.std.specs.Prelude.{Some}
use mathlib.Core.Path.{ap, ◌∙◌}
use mathlib.Core.Bool.{false}
use Prim.Native.Nat.{ℕ}
use lib.IntN.{ℤ}
use mir.Facts.{to_z-of_z}
use Rattle.terms.specs.Refusals as refusal
use Rattle.terms.specs.Refusals.{check}
use Rattle.terms.specs.Positions.{is_position}
use Rattle.terms.specs.Entry.{Entry}
use Rattle.head_spec.specs.Seats.{first_seat}
use Rattle.head_spec.specs.Calls.{start_refusal, started, start}
use Rattle.head_window.specs.Window.{started_registers}
use Rattle.head_c.specs.Blocks.{head_of, registers_of}
use Rattle.head_c.specs.Events.{block_after}
use Rattle.head_c.proofs.After.{first_seat_lem, fresh_left}
use Rattle.head_c.proofs.start.start_in.Goals as goal

pub returns : goal.returns
unfolding block_after start start_refusal started
returns c =
    let a = c.args in
    let w = a.h.now in
    let v = to_z-of_z c.ranges.position in
    let checks = c.number_of-refused.ensures ∙ c.check_start.ensures ∙ ap (start_refusal a.family a.n a.f a.number) v in
    fresh_left w c.first_seat-seat.result (first_seat a.family a.n a.f a.number (Some a.position)) (head_of w) (λ (x : ℕ). started_registers x (registers_of w)) checks
    (c.after_start-b.ensures ∙ ap (started_registers c.number_of-refused.result) c.registers_in.ensures) c.put_fresh.ensures
    (λ z.
    c.first_seat-seat.ensures
    ∙ first_seat_lem a.family false a.n a.f a.number (check (is_position a.position) refusal.position_out_of_range 0) _ z
    ∙ ap (λ (x : ℤ). first_seat a.family a.n a.f a.number (Some x)) v)
