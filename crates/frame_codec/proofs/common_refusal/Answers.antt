-- The round of the kind decides first, then the sender, then the phase; if all are right there is no refusal.
use borrow.Author.Tests.{eq-eqb, ne_eqb}
use Rattle.frame_codec.specs.Steps.{common_refusal}
use Rattle.frame_codec.proofs.common_refusal.Goals as goal

pub returns-then-round_of-round : goal.returns-then-round_of-round
unfolding common_refusal
returns-then-round_of-round c = rw (← c.round_of.ensures, ne_eqb _ _ c.if-round_of-round.true)

pub returns-then-byte_at-link : goal.returns-then-byte_at-link
unfolding common_refusal
returns-then-byte_at-link c =
    rw (← c.round_of.ensures, eq-eqb _ _ c.if-round_of-round.false, ← c.byte_at.ensures, ne_eqb _ _ c.if-byte_at-link.true)

pub returns-then-half_at-phase : goal.returns-then-half_at-phase
unfolding common_refusal
returns-then-half_at-phase c =
    rw (← c.round_of.ensures, eq-eqb _ _ c.if-round_of-round.false, ← c.byte_at.ensures, eq-eqb _ _ c.if-byte_at-link.false, ← c.half_at.ensures, ne_eqb _ _ c.if-half_at-phase.true)

pub returns : goal.returns
unfolding common_refusal
returns c =
    rw (← c.round_of.ensures, eq-eqb _ _ c.if-round_of-round.false, ← c.byte_at.ensures, eq-eqb _ _ c.if-byte_at-link.false, ← c.half_at.ensures, eq-eqb _ _ c.if-half_at-phase.false)
