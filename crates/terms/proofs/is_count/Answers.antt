-- `terms::is_count` meets its contract: its two tests are those of the definition.
use borrow.Author.Tests.{le-leb, lt-leb}
use Rattle.terms.specs.Sizes.{is_count}
use Rattle.terms.proofs.is_count.Goals as goal

pub returns-then-n-ge1 : goal.returns-then-n-ge1
unfolding is_count
returns-then-n-ge1 c = simp (le-leb 1 _ c.if-n-ge1.true)

pub returns-else-n-ge1 : goal.returns-else-n-ge1
unfolding is_count
returns-else-n-ge1 c = simp (lt-leb 1 _ c.if-n-ge1.false)
