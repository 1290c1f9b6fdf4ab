-- The marks, and the numbers.
use Rattle.head_c.specs.Blocks.{head_of}
use Rattle.head_c.proofs.block.list_in.Goals as goal

pub returns : goal.returns
unfolding head_of
returns c = rw c.numbers_in-entries.ensures
