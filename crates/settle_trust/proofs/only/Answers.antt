-- `settle_trust::only` meets its contract: the search, or the leader of the vote.
use native.Mathlib.Omega.{arith}
use Rattle.settle_trust.proofs.Voting.{elected, not_elected}
use Rattle.settle_trust.proofs.only.Goals as goal

pub returns-then-need-equal_to : goal.returns-then-need-equal_to
returns-then-need-equal_to c =
    elected _ _ _ _ c.voted-v.ensures (omega (arith, c.if-need-v.false)) (omega (arith, c.if-need-equal_to.true, c.equal_to.ensures))

pub returns : goal.returns
returns c =
    not_elected _ _ _ _ c.voted-v.ensures (omega (arith, c.if-need-v.false)) (omega (arith, c.if-need-equal_to.false, c.equal_to.ensures))
