-- `ring_play::confession::hear` meets its contract: what the frame said is what was read with the table beside it, and that is stored.
use Rattle.std.proofs.Common.{refl}
use Rattle.ring_play.proofs.round.Frames.{said_read}
use Rattle.ring_play.proofs.confession.hear.Goals as goal

pub returns-then-p : goal.returns-then-p
returns-then-p c =
    rw (said_read _ _ _ _ _ c.read-said.ensures c.parts_of-p.ensures c.if-p.true refl, c.with_mark.ensures, c.table_in-table.ensures) record { links = refl; rows = refl }
