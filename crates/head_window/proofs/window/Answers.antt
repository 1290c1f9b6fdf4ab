-- Byte by byte.
use Rattle.head_window.specs.Window.{window}
use Rattle.head_window.proofs.window.Goals as goal

pub returns : goal.returns
unfolding window
returns c =
    rw (c.low_bits-2.ensures, c.low_bits.ensures, c.status.ensures, c.position_word-word.ensures)
