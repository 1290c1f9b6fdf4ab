-- `settle_trust::trusted_cell` meets its contract: link j confessed, or the lists decide.
use mathlib.Core.Path.{sym, ◌∙◌}
use Rattle.settle_trust.specs.Cells.{column_of}
use Rattle.settle_trust.proofs.Search.{agreed_decided}
use Rattle.settle_trust.proofs.trusted_cell.Goals as goal

pub returns : goal.returns
returns c =
    rw (sym c.marked.ensures ∙ c.if-marked.false) (agreed_decided _ _ _ (column_of c.args.marks.now c.args.lists.now c.args.j) (rw (← c.at_most_32.ensures) c.column.ensures) c.agreed_cell.ensures)
