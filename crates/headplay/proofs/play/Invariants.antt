-- What is left of the script still leads to its end.
use Rattle.std.proofs.Common.{length}
use Rattle.headplay.specs.Script.{played_up_to}
use Rattle.headplay.proofs.Playing.{Leads}
use Rattle.headplay.proofs.play.Given as goal

abbrev pub invariant-loop-rest : goal.invariant-loop-rest
invariant-loop-rest l = Leads l.rest l.x (played_up_to (length l.script) l.script l.initial.x)

abbrev pub decreases-loop-rest : goal.decreases-loop-rest
decreases-loop-rest l = length l.rest
