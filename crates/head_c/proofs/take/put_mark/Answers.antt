-- The word with its bit set is stored where it was.
use mathlib.Core.Path.{ap}
use lib.ListN.{set}
use Rattle.head_c.proofs.take.put_mark.Goals as goal

pub returns : goal.returns
returns c = let a = c.args in ap (set a.h.now a.at) c.with_mark.ensures
