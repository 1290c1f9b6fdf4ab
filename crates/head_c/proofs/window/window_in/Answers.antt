-- The window of the seat and of what stands beside it.
use Rattle.head_c.specs.Blocks.{head_of}
use Rattle.head_c.proofs.window.window_in.Goals as goal

pub returns : goal.returns
unfolding head_of
returns c =
    rw (c.window.ensures, c.registers_in.ensures, c.seat_in.ensures)
