-- Refusal 27 comes first, then 26; else the phase ends with what was offered.
use mathlib.Core.Path.{ap, sym, ◌∙◌}
use Rattle.head_spec.specs.Calls.{adopt}
use Rattle.head_spec.proofs.Stops.{takes, adopts_nothing, adopts_offer, ended_adopts}
use Rattle.head_calls.proofs.offers.adopt.Goals as goal

pub returns-in-None : goal.returns-in-None
returns-in-None c = sym (ap (adopt _) c.in-None.is ∙ adopts_nothing _)

pub returns-then-seat : goal.returns-then-seat
returns-then-seat c = sym (ap (adopt _) c.in-Some.is ∙ ended_adopts _ c.if-seat.true _)

pub returns-else-seat : goal.returns-else-seat
returns-else-seat c =
    ap takes c.closed_phase.ensures
    ∙ sym (ap (adopt _) c.in-Some.is ∙ adopts_offer _ _ c.if-seat.false)
