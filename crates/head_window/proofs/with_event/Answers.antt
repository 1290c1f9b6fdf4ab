-- The events with their bit set, beside the mask as it was.
use Rattle.head_window.proofs.with_event.Goals as goal

pub returns : goal.returns
returns c = rw c.with_mark.ensures
