-- `settle_position::decide_entry` meets its contract: no entry from 32 on is a position, and a lower one goes to its place.
use mathlib.Core.Path.{sym, ◌∙◌}
use Rattle.settle_midpoint.proofs.Ordering.{order_past, order_next}
use Rattle.settle_position.proofs.decide_entry.Goals as goal

pub returns-then-j-ge-HEADS : goal.returns-then-j-ge-HEADS
returns-then-j-ge-HEADS c E P h = order_past E _ (P.past _ c.if-j-ge-HEADS.true) h

pub returns : goal.returns
returns c E P h =
    rw (c.place.ensures.0, c.place.ensures.1) (order_next E _ c.if-j-ge-HEADS.false (sym (c.entry_of.ensures ∙ (c.cell_by-x.ensures E P).entry)) h)
