-- The test is the definition's.
use borrow.Author.Tests.{lt-ltb, le-ltb}
use Rattle.head_window.proofs.read_refusal.Goals as goal

pub returns-then-at-lt16 : goal.returns-then-at-lt16
returns-then-at-lt16 c = rw (lt-ltb _ 16 c.if-at-lt16.true)

pub returns-else-at-lt16 : goal.returns-else-at-lt16
returns-else-at-lt16 c = rw (le-ltb _ 16 c.if-at-lt16.false)
