-- The test says which of the two bytes is written, if one is.
use borrow.Author.Tests.{eq-eqb, ne_eqb}
use Rattle.head_window.proofs.set_register.Goals as goal

pub returns-then-at-eq-EVENTS_BYTE : goal.returns-then-at-eq-EVENTS_BYTE
returns-then-at-eq-EVENTS_BYTE c = rw (c.events_left.ensures, eq-eqb _ 10 c.if-at-eq-EVENTS_BYTE.true)

pub returns-then-at-eq-MASK_BYTE : goal.returns-then-at-eq-MASK_BYTE
returns-then-at-eq-MASK_BYTE c = rw (c.low_bits.ensures, ne_eqb _ 10 c.if-at-eq-EVENTS_BYTE.false, eq-eqb _ 11 c.if-at-eq-MASK_BYTE.true)

pub returns : goal.returns
returns c = rw (ne_eqb _ 10 c.if-at-eq-EVENTS_BYTE.false, ne_eqb _ 11 c.if-at-eq-MASK_BYTE.false)
