-- An adoption that is refused leaves both.
use mathlib.Core.Path.{sym, ◌∙◌}
use Rattle.terms.proofs.Refusals.{unchanged, changed}
use Rattle.head_window.proofs.after_adopt.Goals as goal

pub returns-then-number-ne0 : goal.returns-then-number-ne0
returns-then-number-ne0 c = unchanged _ _ _ c.if-number-ne0.true

pub returns : goal.returns
returns c = c.with_event.ensures ∙ sym (changed _ _ _ c.if-number-ne0.false)
