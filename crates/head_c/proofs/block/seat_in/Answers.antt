-- Word by word.
use Rattle.head_c.specs.Blocks.{seat_of}
use Rattle.head_c.proofs.block.seat_in.Goals as goal

pub returns : goal.returns
unfolding seat_of
returns c =
    rw (c.range_in-kept.ensures, c.entry_in-position.ensures, c.family_in-family.ensures)
