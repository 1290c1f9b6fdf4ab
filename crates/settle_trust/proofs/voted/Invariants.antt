-- `settle_trust::voted` meets its contract: after k turns the vote is that among the first k cells.
use Prim.Native.Nat.{◌≤◌}
use Rattle.settle_trust.specs.Voting.{Leads}
use Rattle.settle_trust.proofs.voted.Given as goal

abbrev pub invariant-loop-x : goal.invariant-loop-x
invariant-loop-x l = (l.v.lead ≤ l.x-index) × (l.v.some ≤ l.x-index) × Leads l.x-index l.cells l.v
