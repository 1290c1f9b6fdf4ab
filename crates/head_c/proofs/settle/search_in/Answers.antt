-- The column is laid out, and decides.
use native.Mathlib.Nat.{min-eq_left}
use Rattle.settle_trust.specs.Cells.{column_of}
use Rattle.settle_trust.proofs.Search.{agreed_decided}
use Rattle.head_c.specs.Steps.{rows_in}
use Rattle.head_c.proofs.settle.search_in.Goals as goal

pub returns : goal.returns
returns c =
    let few = min-eq_left c.requires.1 in
    let E = column_of c.args.marks.now (rows_in c.args.h.now) c.args.j in
    let column = c.column_in.ensures in
    (column.0, rw few at (agreed_decided _ _ _ E (rw few column.1) c.agreed_cell.ensures))
