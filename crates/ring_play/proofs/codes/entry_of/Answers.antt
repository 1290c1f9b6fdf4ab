-- `ring_play::codes::entry_of` meets its contract: no entry for no code, and else the code as a position.
use Rattle.std.specs.Prelude.{Some}
use Rattle.std.proofs.Common.{sym, ap, ◌∙◌, to_z-of_z, w32, to_z}
use Rattle.ring_play.proofs.codes.Codes.{entry_null, entry_position, bits_other}
use Rattle.ring_play.proofs.codes.entry_of.Goals as goal

pub returns-then-c-eq-NONE : goal.returns-then-c-eq-NONE
returns-then-c-eq-NONE c = sym (entry_null (sym (to_z-of_z c.ranges.c) ∙ ap (to_z w32) c.if-c-eq-NONE.true))

pub returns : goal.returns
returns c = ap Some (to_z-of_z c.ranges.c) ∙ sym (entry_position (bits_other c.if-c-eq-NONE.false))
