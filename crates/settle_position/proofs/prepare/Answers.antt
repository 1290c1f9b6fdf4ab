-- `settle_position::prepare` meets its contract: what the lists and their marks decide is the trusted entries, and the lists are compared with the reference's.
use mathlib.Core.Path.{refl}
use native.Mathlib.Omega.{arith}
use Rattle.settle_trust.proofs.Received.{words}
use Rattle.settle_trust.proofs.Trusted.{decided_marked, trusted_past}
use Rattle.settle_position.proofs.Reference.{prepared}
use Rattle.settle_position.proofs.prepare.Goals as goal

pub returns : goal.returns
returns c =
    let a = c.args in
    let w = words a.links c.well_formed.1.0 in
    prepared _ _ _ _ c.compare-comparison.result _ c.compare-comparison.ensures refl refl refl
    (λ j. decided_marked a.links a.lists.now w a.n a.f j c.at_most_32-count.ensures c.lists_needed.ensures c.all_marks.ensures)
    (trusted_past a.links a.lists.now w a.n a.f)
    (omega (arith, c.at_most_32-count.ensures))
