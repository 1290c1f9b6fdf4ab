-- `run_round::stage_of` meets its contract: the phase is the one field that is computed.
use Rattle.run_round.proofs.stage_of.Goals as goal

pub returns : goal.returns
returns c = rw c.phase_of.ensures
