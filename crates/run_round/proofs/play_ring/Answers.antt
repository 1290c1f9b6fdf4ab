-- `run_round::play_ring` meets its contract: the stage is that of the pending round; the family says how its phases go, and in a phase of two rounds its number
-- says which of them it is.
use mathlib.Core.Path.{refl, sym, ◌∙◌}
use Rattle.run_spec.proofs.Reached.{taken}
use Rattle.run_round.proofs.Rounds.{collection_kept, confession_kept, conclusion_kept}
use Rattle.run_round.proofs.play_ring.Goals as goal

pub returns-then-not-ends_phase : goal.returns-then-not-ends_phase
returns-then-not-ends_phase c =
    let opens = sym c.ends_phase.ensures ∙ c.if-not-ends_phase.true in
    λ a begun pending T H fresh. collection_kept (taken a begun) begun pending T H c.stage_of-s.ensures opens refl c.collect.ensures

pub returns-else-not-ends_phase : goal.returns-else-not-ends_phase
returns-else-not-ends_phase c =
    let ends = sym c.ends_phase.ensures ∙ c.if-not-ends_phase.false in
    λ a begun pending T H fresh.
    confession_kept (taken a begun) begun pending T H c.stage_of-s.ensures fresh c.in-TwoRounds.is ends c.confess.ensures

pub returns-in-OneRound : goal.returns-in-OneRound
returns-in-OneRound c =
    λ a begun pending T H fresh.
    conclusion_kept (taken a begun) begun pending T H c.stage_of-s.ensures fresh c.in-OneRound.is c.conclude.ensures
