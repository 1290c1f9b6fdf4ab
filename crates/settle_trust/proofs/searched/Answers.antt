-- `settle_trust::searched` meets its contract: after k turns `found` is what was found among the first k cells. Where the loop ends, the cells that are left are too few
-- to change it.
use mathlib.Core.Path.{sym, ◌∙◌}
use native.Mathlib.Omega.{arith}
use Rattle.std.proofs.lemmas.List.{length-take}
use Rattle.settle_trust.proofs.Cells.{read_first}
use Rattle.settle_trust.proofs.Search.{none_looked, turn_finds, turn_finds_second, turn_passes, search_ends}
use Rattle.settle_trust.proofs.searched.Goals as goal
use Rattle.settle_trust.proofs.searched.Goals.{then-is_another+else-found-ne0, else-is_another}

pub loop-x-init : goal.loop-x-init
loop-x-init c = none_looked _ _ _

pub returns-then-found-ne0 : goal.returns-then-found-ne0
returns-then-found-ne0 c =
    let e = rw (read_first _ _ _ c.loop-x-test.true) at c.is_another.ensures in
    turn_finds_second _ _ _ _ _ c.loop-x.invariant (sym e ∙ c.if-is_another.true) c.if-found-ne0.true

pub loop-x-preserved : goal.loop-x-preserved
loop-x-preserved c =
    let L = c.loop-x.invariant in
    let x = read_first _ _ _ c.loop-x-test.true in
    let e = sym (rw x at c.is_another.ensures) in
    elim c.if-is_another.branch [
      | then-is_another+else-found-ne0 w ↦ rw (w.found-is, x) (turn_finds _ _ _ _ _ L (e ∙ w.if-is_another.true) w.if-found-ne0.false)
      | else-is_another w ↦ rw w.found-is (turn_passes _ _ _ _ _ L (e ∙ w.if-is_another.false))
    ]

pub returns : goal.returns
returns c =
    let few = length-take c.saturating_sub.result c.args.cells.now in
    search_ends _ _ _ _ _ c.loop-x.invariant (omega arith) (omega arith)
