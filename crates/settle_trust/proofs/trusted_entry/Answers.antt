-- `settle_trust::trusted_entry` meets its contract: the cell that was decided holds the trusted entry.
use mathlib.Core.Path.{◌∙◌}
use native.Mathlib.Omega.{arith}
use Rattle.settle_trust.proofs.Received.{words}
use Rattle.settle_trust.proofs.Trusted.{decided_marked}
use Rattle.settle_trust.proofs.trusted_entry.Goals as goal

pub returns : goal.returns
returns c =
    c.entry_of.ensures
    ∙ c.trusted_cell.ensures.entry
    ∙ decided_marked c.args.links c.args.lists (words c.args.links c.well_formed.1.0) c.args.n c.args.f c.args.j
    (omega (arith, c.at_most_32-count.ensures)) c.lists_needed-need.ensures c.all_marks-given.ensures
