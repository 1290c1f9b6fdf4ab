-- `terms::is_limit` meets its contract: arm by arm, each the definition's test.
use Rattle.terms.specs.Sizes.{is_limit}
use Rattle.terms.proofs.is_limit.Goals as goal

pub returns-in-TwoRounds : goal.returns-in-TwoRounds
unfolding is_limit
returns-in-TwoRounds c = rw c.in-TwoRounds.is

pub returns-in-OneRound : goal.returns-in-OneRound
unfolding is_limit
returns-in-OneRound c = rw c.in-OneRound.is
