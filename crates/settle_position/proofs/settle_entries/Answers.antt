-- `settle_position::settle_entries` meets its contract: before entry j the order holds the positions among the entries below j. After the last entry
-- these are all that settling asks of the entries.
use mathlib.Core.Path.{◌∙◌}
use native.Mathlib.Omega.{arith}
use Rattle.settle_midpoint.proofs.Ordering.{order_none, order_all}
use Rattle.settle_midpoint.proofs.Middle.{settling_after}
use Rattle.settle_position.proofs.settle_entries.Goals as goal

pub loop-j-init : goal.loop-j-init
loop-j-init c = λ E P. order_none E

pub returns : goal.returns
returns c E P =
    let a = c.args in
    c.middle_of.ensures ∙ settling_after _ _ _ _ (order_all E P.past a.n (omega (arith, c.at_most_32-count.ensures)) (c.loop-j.invariant E P))
