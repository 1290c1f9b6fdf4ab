-- Refusal 26 comes first; then the round decides.
use mathlib.Core.Path.{sym, ◌∙◌}
use Rattle.head_spec.proofs.Stops.{ended_closes}
use Rattle.head_spec.proofs.RoundClose.{closes_collection, closes_last}
use Rattle.head_calls.proofs.closing.close.Goals as goal

pub returns-then-seat : goal.returns-then-seat
returns-then-seat c = rw c.number.ensures (sym (ended_closes _ c.if-seat.true))

pub returns-then-not-is_last_round : goal.returns-then-not-is_last_round
returns-then-not-is_last_round c =
    rw c.closed_collection-head.ensures (sym (closes_collection _ c.if-seat.false (sym c.is_last_round.ensures ∙ c.if-not-is_last_round.true)))

pub returns : goal.returns
returns c =
    c.close_last.ensures ∙ sym (closes_last _ c.if-seat.false (sym c.is_last_round.ensures ∙ c.if-not-is_last_round.false))
