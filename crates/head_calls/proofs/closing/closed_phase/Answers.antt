-- The record is opened with the seat that the definition gives, and no entries.
use Rattle.head_spec.specs.Calls.{closed_phase}
use Rattle.head_calls.proofs.closing.closed_phase.Goals as goal

pub returns : goal.returns
unfolding closed_phase
returns c = rw (c.opened.ensures, c.no_entries.ensures, c.next_seat.ensures)
