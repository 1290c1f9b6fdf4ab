-- `settle_trust::after_cell` meets its contract: its cases are those of a vote.
use native.Mathlib.Omega.{arith}
use Rattle.settle_trust.proofs.Voting.{passes, leads, joins, takes}
use Rattle.settle_trust.proofs.after_cell.Goals as goal

pub returns-then-x-eq0 : goal.returns-then-x-eq0
returns-then-x-eq0 c = (omega arith, omega arith, λ cells k e L. passes cells k e _ L c.if-x-eq0.true)

pub returns-then-v-eq0 : goal.returns-then-v-eq0
returns-then-v-eq0 c = (omega arith, omega arith, λ cells k e L. leads cells k e _ L c.if-v-eq0.true)

pub returns-then-x-leader : goal.returns-then-x-leader
returns-then-x-leader c = (omega arith, omega arith, λ cells k e L. joins cells k e _ L c.if-x-leader.true)

pub returns : goal.returns
returns c = (omega arith, omega arith, λ cells k e L. takes cells k e _ L c.if-x-leader.false c.if-v-eq0.false)
