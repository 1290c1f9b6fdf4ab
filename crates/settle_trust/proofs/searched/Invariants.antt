-- `settle_trust::searched` meets its contract: after k turns `found` is what was found among the first k cells. Where the loop ends, the cells that are left are too few
-- to change it.
use Rattle.settle_trust.proofs.Search.{Looked}
use Rattle.settle_trust.proofs.searched.Given as goal

abbrev pub invariant-loop-x : goal.invariant-loop-x
invariant-loop-x l = Looked l.n l.need l.cells l.x-index l.found
