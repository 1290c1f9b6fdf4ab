-- Each test that fails is one of the two that have to hold.
use mathlib.Core.Path.{sym, ◌∙◌}
use Rattle.head_calls.proofs.starts.is_time.Goals as goal

pub returns-then-not-is_phase : goal.returns-then-not-is_phase
returns-then-not-is_phase c =
    let p = sym c.is_phase.ensures ∙ c.if-not-is_phase.true in
    rw p

pub returns : goal.returns
returns c =
    let p = sym c.is_phase.ensures ∙ c.if-not-is_phase.false in
    rw (p, c.rounds_of.ensures)
