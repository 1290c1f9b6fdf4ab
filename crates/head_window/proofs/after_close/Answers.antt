-- Arm by arm.
use mathlib.Core.Path.{sym, ◌∙◌}
use borrow.Author.Tests.{eq-eqb, ne_eqb}
use Rattle.head_window.proofs.after_close.Goals as goal

pub returns-then-number : goal.returns-then-number
returns-then-number c = rw (c.with_event.ensures, c.in-Refused.is, eq-eqb _ 25 (c.if-number.true ∙ c.number.ensures))

pub returns-else-number : goal.returns-else-number
returns-else-number c = rw (c.in-Refused.is, ne_eqb _ 25 (λ q. c.if-number.false (q ∙ sym c.number.ensures)))
