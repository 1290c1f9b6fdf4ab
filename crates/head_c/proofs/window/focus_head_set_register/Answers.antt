-- What the write leaves beside the head, put back.
use mathlib.Core.Path.{ap, ◌∙◌}
use Rattle.head_window.specs.declared.Registers.{Registers}
use Rattle.head_window.specs.Window.{set_registers}
use Rattle.head_c.specs.Blocks.{with_registers}
use Rattle.head_c.specs.Events.{block_after}
use Rattle.head_c.proofs.window.focus_head_set_register.Goals as goal

pub returns : goal.returns
unfolding block_after
returns c =
    let a = c.args in
    let b = c.set_register-b.ensures ∙ ap (set_registers a.at a.byte) c.registers_in.ensures in
    (c.number_of.ensures ∙ c.set_refusal.ensures, c.put_registers.ensures ∙ ap (λ (x : Registers). with_registers x a.h.now) b)
