-- After k turns the first k cells hold what the first k lists say of head j.
use mathlib.Core.Path.{◌≡◌}
use lib.ListN.{length}
use Rattle.settle_trust.specs.Cells.{HoldsEach, column_of}
use Rattle.head_c.specs.Steps.{rows_in}
use Rattle.head_c.proofs.settle.column_in.Given as goal

abbrev pub invariant-loop-k : goal.invariant-loop-k
invariant-loop-k l = (length l.cells ≡ 32) × HoldsEach l.k l.cells (column_of l.marks (rows_in l.h) l.j)
