-- The two tests are those of the definition.
use borrow.Author.Tests.{le-leb, lt-leb}
use Rattle.terms.specs.Sizes.{is_listener}
use Rattle.terms.proofs.is_listener.Goals as goal

pub returns-then-number-ge32 : goal.returns-then-number-ge32
unfolding is_listener
returns-then-number-ge32 c = rw (le-leb 32 _ c.if-number-ge32.true)

pub returns-else-number-ge32 : goal.returns-else-number-ge32
unfolding is_listener
returns-else-number-ge32 c = rw (lt-leb 32 _ c.if-number-ge32.false)
