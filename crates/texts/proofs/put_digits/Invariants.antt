-- `texts::put_digits` meets its contract: at the loop's head the last k - i digits stand in place, and `rest` has the others.
use Rattle.texts.proofs.Writing.{Spelt}
use Rattle.texts.proofs.put_digits.Given as goal

abbrev pub invariant-loop-i : goal.invariant-loop-i
invariant-loop-i l = Spelt l.base l.k l.x l.at l.initial.line l.line l.rest l.i
