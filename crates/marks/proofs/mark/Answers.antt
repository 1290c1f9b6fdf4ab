-- `marks::mark` meets its contract: a shift of 1 by less than 32 loses nothing.
use Rattle.marks.proofs.Marks.{mark_is}
use Rattle.marks.proofs.mark.Goals as goal

pub returns : goal.returns
returns c = mark_is _ c.requires
