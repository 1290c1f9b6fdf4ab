-- The record is opened with the seat and the list that the definition gives.
use Rattle.head_spec.specs.Calls.{closed_collection}
use Rattle.head_calls.proofs.closing.closed_collection.Goals as goal

pub returns : goal.returns
unfolding closed_collection
returns c = rw (c.opened.ensures, c.confession_seat.ensures)
