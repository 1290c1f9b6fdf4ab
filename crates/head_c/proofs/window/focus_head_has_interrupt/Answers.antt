-- The line as a number.
use mathlib.Core.Path.{ap, ◌∙◌}
use Rattle.terms.specs.Counting.{bit}
use Rattle.marks.proofs.Counts.{byte_bit}
use Rattle.head_window.specs.Window.{is_line_up}
use Rattle.head_c.proofs.window.focus_head_has_interrupt.Goals as goal

pub returns : goal.returns
returns c = byte_bit c.is_line_up.result ∙ ap bit (c.is_line_up.ensures ∙ ap is_line_up c.registers_in.ensures)
