-- `ring_play::codes::lead` meets its contract: no code led; or the code that led is voted for; or another is.
use Rattle.std.proofs.Common.{ne_eqb}
use Rattle.ring_play.proofs.codes.Codes.{eq_z_yes, eq_z_no, bits_same, bits_other}
use Rattle.ring_play.proofs.codes.lead.Goals as goal

pub returns-then-x-c : goal.returns-then-x-c
returns-then-x-c c =
    rw (ne_eqb _ 0 c.if-l-eq0.false, eq_z_yes (bits_same c.ranges.x c.ranges.c c.if-x-c.true))

pub returns : goal.returns
returns c = rw (ne_eqb _ 0 c.if-l-eq0.false, eq_z_no (bits_other c.if-x-c.false))
