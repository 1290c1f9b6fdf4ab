-- Case by case.
use Rattle.head_c.proofs.block.kept_of.Goals as goal

pub returns-in-None : goal.returns-in-None
returns-in-None c = rw c.in-None.is
