-- `texts::put_digits` meets its contract: at the loop's head the last k - i digits stand in place, and `rest` has the others.
use mathlib.Core.Path.{◌≡◌}
use native.Mathlib.Omega.{arith}
use borrow.Author.Rules.{rules}
use Rattle.texts.proofs.Writing.{spelt_more, spelt_all}
use Rattle.texts.proofs.put_digits.Goals as goal

pub loop-i-preserved : goal.loop-i-preserved
loop-i-preserved c = rw c.digit.ensures (spelt_more (search rules) (search rules) c.loop-i.invariant)

pub returns : goal.returns
returns c =
    let l = c.loop-i in
    let e : l.i ≡ 0 = omega arith in
    record { text = spelt_all c.args.line.now c.args.after (omega (arith, c.requires.0)) (rw e at l.invariant); room = search rules }
