-- What is left of the script still leads to its end.
use Rattle.std.proofs.Common.{sym, ◌∙◌, arith}
use Rattle.std.proofs.lemmas.Bool.Decides.{nat_tests}
use Rattle.headplay.proofs.Playing.{ends, over, next, starts}
use Rattle.headplay.proofs.play.Goals as goal

pub returns-then-size-eq0 : goal.returns-then-size-eq0
returns-then-size-eq0 c =
    ends c.loop-rest.invariant (sym c.record_size-size.ensures ∙ c.if-size-eq0.true) ∙ starts c.args.script.now c.first.ensures

pub loop-rest-preserved : goal.loop-rest-preserved
loop-rest-preserved c =
    next c.loop-rest.invariant c.record_size-size.ensures c.if-size-eq0.false c.split_at.ensures.front c.split_at.ensures.back c.turn-x.ensures

pub returns : goal.returns
returns c = over c.loop-rest.invariant (grind (arith, nat_tests)) ∙ starts c.args.script.now c.first.ensures
