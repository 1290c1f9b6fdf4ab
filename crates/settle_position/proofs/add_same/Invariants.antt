-- `settle_position::add_same` meets its contract: before entry j, the counts below j have one more if the two numbers are the same, and the others are as they were.
use Rattle.settle_position.specs.Reference.{same_number}
use Rattle.settle_position.proofs.Counting.{AddedTo}
use Rattle.settle_position.proofs.add_same.Given as goal

abbrev pub invariant-loop-j : goal.invariant-loop-j
invariant-loop-j l = AddedTo (same_number l.a l.b) l.initial.same l.j l.same
