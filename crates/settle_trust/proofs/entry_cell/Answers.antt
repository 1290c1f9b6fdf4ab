-- `settle_trust::entry_cell` meets its contract: an entry that is marked is read from the list, and one that is not marked is null. No entry from 32 on is
-- marked, since a word has no such bit.
use mathlib.Core.Path.{sym, ◌∙◌}
use native.Mathlib.Omega.{arith}
use lib.IntN.{pos}
use lib.ListN.{get_or}
use Rattle.marks.proofs.Marks.{bit_above}
use Rattle.settle_trust.proofs.Cells.{holds_position, holds_null, holds_same, entry_marked, entry_unmarked}
use Rattle.settle_trust.proofs.entry_cell.Goals as goal

pub returns-then-j-lt-HEADS : goal.returns-then-j-lt-HEADS
returns-then-j-lt-HEADS c =
    let a = c.args in
    holds_same (holds_position {v = get_or a.list.now a.j (pos 0)} (record { sfits = omega arith }) c.cell_of.ensures)
    (sym (entry_marked a.marks a.list.now a.j (sym c.marked.ensures ∙ c.if-marked.true)))

pub returns-else-j-lt-HEADS : goal.returns-else-j-lt-HEADS
returns-else-j-lt-HEADS c =
    holds_same holds_null (sym (entry_unmarked c.args.marks c.args.list.now c.args.j (bit_above c.args.marks 32 c.args.j c.ranges.marks.fits c.if-j-lt-HEADS.false)))

pub returns-else-marked : goal.returns-else-marked
returns-else-marked c =
    let a = c.args in
    holds_same holds_null (sym (entry_unmarked a.marks a.list.now a.j (sym c.marked.ensures ∙ c.if-marked.false)))
