-- A call that is refused leaves the offer.
use mathlib.Core.Path.{sym}
use Rattle.terms.proofs.Refusals.{unchanged, changed}
use Rattle.head_calls.proofs.offers.lapsed.Goals as goal

pub returns-then-number-eq0 : goal.returns-then-number-eq0
returns-then-number-eq0 c = sym (changed _ _ _ c.if-number-eq0.true)

pub returns : goal.returns
returns c = unchanged _ _ _ c.if-number-eq0.false
