-- `terms::is_phase` meets its contract: its two tests are those of the definition.
use borrow.Author.Tests.{le-leb, lt-leb}
use Rattle.terms.proofs.is_phase.Goals as goal

pub returns-then-phase-ge1 : goal.returns-then-phase-ge1
returns-then-phase-ge1 c = simp (le-leb 1 _ c.if-phase-ge1.true)

pub returns-else-phase-ge1 : goal.returns-else-phase-ge1
returns-else-phase-ge1 c = simp (lt-leb 1 _ c.if-phase-ge1.false)
