-- Arm by arm.
use Rattle.head_calls.proofs.offers.offered.Goals as goal

pub returns-in-Settled : goal.returns-in-Settled
returns-in-Settled c = rw c.in-Settled.is
