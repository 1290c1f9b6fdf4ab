-- `settle_trust::trusted_table` meets its contract: before head j the marks and the numbers are those of the trusted entries below j. A turn adds the mark and
-- stores the number of the cell that was decided. The entries from 32 on are null.
use mathlib.Core.Path.{◌≡◌}
use Rattle.entries.specs.Tables.{marks_of, values_of}
use Rattle.convergence.specs.Trust.{trusted}
use Rattle.settle_trust.specs.Received.{given_by}
use Rattle.settle_trust.proofs.trusted_table.Given as goal

abbrev pub invariant-loop-j : goal.invariant-loop-j
invariant-loop-j l =
    (l.marks ≡ marks_of l.j (trusted l.n l.f (given_by l.links l.lists))) × (l.entries ≡ values_of l.j (trusted l.n l.f (given_by l.links l.lists)))
