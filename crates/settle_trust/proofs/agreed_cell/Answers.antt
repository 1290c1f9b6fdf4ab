-- `settle_trust::agreed_cell` meets its contract: every number reaches 0, so that none does alone; or the search.
use Rattle.settle_trust.proofs.Search.{none_needed}
use Rattle.settle_trust.proofs.agreed_cell.Goals as goal

pub returns-then-need-eq0 : goal.returns-then-need-eq0
returns-then-need-eq0 c = none_needed _ _ _ c.if-need-eq0.true
