-- What a start of that head would make.
use Rattle.head_spec.specs.Calls.{started}
use Rattle.headplay.proofs.first.Goals as goal

pub returns : goal.returns
unfolding started
returns c = rw (c.opened.ensures, c.no_entries.ensures, c.first_seat-seat.ensures)
