-- `run_round::line_of` meets its contract: nothing in a round that does not end its phase, else the line of the lowest and the highest.
use mathlib.Core.Path.{sym, ◌∙◌}
use native.Mathlib.Omega.{arith}
use Rattle.texts.proofs.Writing.{empty_text}
use Rattle.run_round.proofs.line_of.Goals as goal

pub returns-then-not-ends_phase : goal.returns-then-not-ends_phase
returns-then-not-ends_phase c =
    let opens = sym c.ends_phase.ensures ∙ c.if-not-ends_phase.true in
    record { result_value = rw opens (empty_text _ c.empty.ensures); len_bound = omega (arith, c.empty.ensures) }

pub returns : goal.returns
returns c =
    let ends = sym c.ends_phase.ensures ∙ c.if-not-ends_phase.false in
    record { result_value = c.line_with.ensures.result_value _ ends c.extremes_of.ensures; len_bound = c.line_with.ensures.len_bound }
