-- `ring_play::collection::entry_in` meets its contract: only the frame of a position in range says one.
use Rattle.std.specs.Prelude.{Some}
use Rattle.std.proofs.Common.{ℤ, refl, ap, ◌∙◌, to_z-of_z, w32}
use Rattle.ring_play.proofs.collection.Positions.{heard_in_lem}
use Rattle.ring_play.proofs.collection.entry_in.Goals as goal

pub returns-then-is_position_word : goal.returns-then-is_position_word
returns-then-is_position_word c n =
    let a = c.args in
    ap (λ (z : ℤ). Some z) (to_z-of_z {w = w32} (record { sfits = c.signed.type_inv }) ∙ c.signed.ensures)
    ∙ (rw (c.if-is_position_frame.true, c.if-is_position_word.true) at (heard_in_lem n a.phase a.k a.frame.now c.is_position_frame.ensures c.word_at-word.ensures c.is_position_word.ensures))

pub returns-else-is_position_word : goal.returns-else-is_position_word
returns-else-is_position_word c n =
    let a = c.args in
    rw (c.if-is_position_frame.true, c.if-is_position_word.false) at (heard_in_lem n a.phase a.k a.frame.now c.is_position_frame.ensures c.word_at-word.ensures c.is_position_word.ensures)

pub returns-else-is_position_frame : goal.returns-else-is_position_frame
returns-else-is_position_frame c n =
    let a = c.args in
    rw c.if-is_position_frame.false at (heard_in_lem n a.phase a.k a.frame.now c.is_position_frame.ensures refl refl)
