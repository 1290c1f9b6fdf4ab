-- `run_piece::headed` meets its contract: the header of a record that is allowed is kept, another stops the file.
use mathlib.Core.Path.{sym, ◌∙◌}
use Rattle.run_piece.proofs.headed.Goals as goal

pub returns-then-stands : goal.returns-then-stands
returns-then-stands c = rw (sym c.stands.ensures ∙ c.if-stands.true) c.holding.ensures

pub returns : goal.returns
returns c = rw (sym c.stands.ensures ∙ c.if-stands.false) (rw c.number.ensures at c.stop.ensures)
