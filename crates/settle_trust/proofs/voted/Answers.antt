-- `settle_trust::voted` meets its contract: after k turns the vote is that among the first k cells.
use native.Mathlib.Omega.{arith}
use Rattle.settle_trust.proofs.Voting.{none_leads}
use Rattle.settle_trust.proofs.voted.Goals as goal

pub loop-x-init : goal.loop-x-init
loop-x-init c = (omega arith, omega arith, none_leads _)
