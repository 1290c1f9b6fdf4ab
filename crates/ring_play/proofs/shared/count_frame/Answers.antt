-- `ring_play::shared::count_frame` meets its contract: what the frame said is what was read with the table beside it, and that is counted.
use Rattle.std.proofs.Common.{refl}
use Rattle.ring_play.proofs.round.Frames.{said_read}
use Rattle.ring_play.proofs.shared.Counting.{counted_list}
use Rattle.ring_play.proofs.shared.count_frame.Goals as goal

pub returns-then-p : goal.returns-then-p
returns-then-p c =
    rw (said_read _ _ _ _ _ c.read-said.ensures c.parts_of-p.ensures c.if-p.true refl, ← c.table_in-table.ensures)
    (counted_list _ _ _ _ _ c.table_in-table.result c.tally.ensures)
