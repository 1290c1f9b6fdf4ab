-- A number that is 0 ends the offer.
use mathlib.Core.Path.{sym}
use Rattle.terms.proofs.Refusals.{unchanged, changed}
use Rattle.head_c.proofs.block.end_offer.Goals as goal

pub returns-then-number-eq0 : goal.returns-then-number-eq0
returns-then-number-eq0 c = sym (changed _ _ _ c.if-number-eq0.true)

pub returns-else-number-eq0 : goal.returns-else-number-eq0
returns-else-number-eq0 c = unchanged _ _ _ c.if-number-eq0.false
