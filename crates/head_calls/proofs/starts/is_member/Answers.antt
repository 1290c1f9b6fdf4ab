-- The test is the definition's, by whether it is a listener.
use Rattle.head_calls.proofs.starts.is_member.Goals as goal

pub returns-then-listens : goal.returns-then-listens
returns-then-listens c = rw c.if-listens.true c.is_listener.ensures

pub returns : goal.returns
returns c = rw c.if-listens.false
