-- An event that is not pending is not called, and of one that is the mask says it.
use mathlib.Core.Path.{sym, ◌∙◌}
use Rattle.head_window.proofs.Bits.{both, first_not}
use Rattle.head_window.proofs.is_called.Goals as goal

pub returns-then-marked : goal.returns-then-marked
returns-then-marked c = both (sym c.marked.ensures ∙ c.if-marked.true) c.marked-then-marked.ensures

pub returns : goal.returns
returns c = first_not _ (sym c.marked.ensures ∙ c.if-marked.false)
