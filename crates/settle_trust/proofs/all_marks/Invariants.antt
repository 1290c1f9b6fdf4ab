-- `settle_trust::all_marks` meets its contract: after k turns the words are those of the first k links. A turn stores one.
use mathlib.Core.Path.{◌≡◌}
use Rattle.settle_trust.specs.Cells.{marks_to}
use Rattle.settle_trust.proofs.all_marks.Given as goal

abbrev pub invariant-loop-k : goal.invariant-loop-k
invariant-loop-k l = l.marks ≡ marks_to l.links l.k
