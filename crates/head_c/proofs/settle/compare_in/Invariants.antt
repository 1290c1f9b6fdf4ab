-- After k turns the lists compared are the first k.
use mathlib.Core.Path.{◌≡◌}
use lib.ListN.{length}
use Rattle.settle_position.specs.Reference.{Compares}
use Rattle.head_c.specs.Steps.{rows_in}
use Rattle.head_c.proofs.settle.compare_in.Given as goal

abbrev pub invariant-loop-k : goal.invariant-loop-k
invariant-loop-k l =
    (length l.same ≡ 32) × Compares l.k l.marks (rows_in l.h) l.reference (record { alike = l.alike; apart = l.apart; same = l.same })
