-- `settle_trust::equal_to` meets its contract: after k turns the count is the sum over the first k cells, and it is at most k, so that it fits.
use mathlib.Core.Path.{◌≡◌}
use Rattle.settle_trust.specs.Cells.{equal_to}
use Rattle.settle_trust.proofs.equal_to.Given as goal

abbrev pub invariant-loop-cell : goal.invariant-loop-cell
invariant-loop-cell l = l.c ≡ equal_to l.cell-index l.cells l.x
