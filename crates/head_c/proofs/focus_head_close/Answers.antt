-- The round is closed on the block, and then what stands beside the head is put there.
use mathlib.Core.Path.{ap, ◌∙◌}
use Rattle.head_lent.specs.Answers.{closed_number}
use Rattle.head_window.specs.Window.{closed_registers}
use Rattle.head_c.specs.Blocks.{with_registers}
use Rattle.head_c.specs.Events.{block_after}
use Rattle.head_c.proofs.focus_head_close.Goals as goal

pub returns : goal.returns
unfolding block_after
returns c =
    let k = c.close_in-closed.ensures in
    let registers = c.after_close-b.ensures ∙ (λ i. closed_registers (k.0 i) (c.registers_in-old.ensures i)) in
    (c.closed_number.ensures ∙ ap closed_number k.0, c.put_registers.ensures ∙ (λ i. with_registers (registers i) (k.1 i)))
