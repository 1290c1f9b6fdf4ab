-- `run_round::agree` meets its contract: by what the player tells of the pending round, and at a phase end by the positions.
use mathlib.Core.Path.{sym, ◌∙◌}
use borrow.Author.Tests.{not-true, not-false}
use Rattle.run_round.proofs.Agreement.{still_agreed, none_pending, none_ended, at_end}
use Rattle.run_round.proofs.agree.Goals as goal

pub returns-then-p : goal.returns-then-p
returns-then-p c = λ a M begun T H. still_agreed a M begun T H c.if-p.true

pub returns-then-not-p : goal.returns-then-not-p
returns-then-not-p c = λ a M begun T H. none_pending a M begun T H c.if-p.false (not-true _ c.if-not-p.true)

pub returns-then-not-ends_phase : goal.returns-then-not-ends_phase
returns-then-not-ends_phase c =
    λ a M begun T H.
    none_ended a M begun T H c.if-p.false (not-false _ c.if-not-p.false) (sym c.ends_phase.ensures ∙ c.if-not-ends_phase.true)

pub returns : goal.returns
returns c =
    let ends = sym c.ends_phase.ensures ∙ c.if-not-ends_phase.false in
    λ a M begun T H. at_end a M begun T H c.if-p.false (not-false _ c.if-not-p.false) ends c.level.new.positions c.level.ensures.is c.level.ensures.becomes
