-- Arm by arm.
use Rattle.head_calls.proofs.starts.rounds_of.Goals as goal

pub returns-in-TwoRounds : goal.returns-in-TwoRounds
returns-in-TwoRounds c = rw c.in-TwoRounds.is

pub returns-in-OneRound : goal.returns-in-OneRound
returns-in-OneRound c = rw c.in-OneRound.is
