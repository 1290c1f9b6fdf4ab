-- Bit by bit.
use Rattle.head_window.proofs.events_left.Goals as goal

pub returns : goal.returns
returns c =
    rw (c.three.ensures, c.is_left-3.ensures, c.is_left-2.ensures, c.is_left.ensures)
