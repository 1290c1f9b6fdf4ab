-- Bit by bit.
use Rattle.head_window.proofs.low_bits.Goals as goal

pub returns : goal.returns
returns c =
    rw (c.three.ensures, c.marked-3.ensures, c.marked-2.ensures, c.marked.ensures)
