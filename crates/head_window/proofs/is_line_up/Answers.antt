-- Bit by bit.
use Rattle.head_window.specs.Window.{is_line_up}
use Rattle.head_window.proofs.is_line_up.Goals as goal

pub returns : goal.returns
unfolding is_line_up
returns c =
    rw (c.three.ensures, c.is_called-3.ensures, c.is_called-2.ensures, c.is_called.ensures)
