-- Frame after frame, each heard as it is heard alone.
use lib.ListN.{length}
use Rattle.head_spec.proofs.BatchLoop.{Hearing}
use Rattle.head_hear.proofs.hear_entries.Given as goal

abbrev pub invariant-loop-rest : goal.invariant-loop-rest
invariant-loop-rest l = Hearing l.initial.next l.batch l.initial.answers l.next l.answers l.rest l.i

abbrev pub decreases-loop-rest : goal.decreases-loop-rest
decreases-loop-rest l = length l.rest
