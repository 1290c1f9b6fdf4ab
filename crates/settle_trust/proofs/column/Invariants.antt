-- `settle_trust::column` meets its contract: after k turns the first k cells hold what the first k lists say of head j. A turn stores one cell and leaves
-- the others.
use Prim.Native.Nat.{◌≤◌}
use lib.ListN.{length}
use Rattle.settle_trust.specs.Cells.{HoldsEach, column_of}
use Rattle.settle_trust.proofs.column.Given as goal

abbrev pub invariant-loop-k : goal.invariant-loop-k
invariant-loop-k l = (l.n ≤ length l.cells) × HoldsEach l.k l.cells (column_of l.marks l.lists l.j)
