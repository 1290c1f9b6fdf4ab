-- A first seat, in another phase and round, and healed.
use Rattle.head_calls.proofs.seats.healed_seat.Goals as goal

pub returns : goal.returns
returns c = rw c.first_seat-seat.ensures
