-- A start in a ring of two rounds.
use mir.Facts.{to_z-of_z}
use Rattle.head_c.proofs.focus_head_start.Goals as goal

pub returns : goal.returns
returns c = rw (to_z-of_z c.ranges.position) at c.start_in.ensures
