-- `frame_slots::slot` meets its contract: a slot past the end is empty, one that the bytes cut short is what is left of them, and any other is whole.
use native.Mathlib.Omega.{arith}
use borrow.Author.Rules.{rules}
use Rattle.frame_slots.proofs.Parts.{slot_past, slot_short, slot_whole}
use Rattle.frame_slots.proofs.slot.Goals as goal

pub returns-then-size-from : goal.returns-then-size-from
returns-then-size-from c =
    let a = c.args in
    slot_past a.bytes.now a.lengths.now a.k (search rules)

pub returns-then-size-from-2 : goal.returns-then-size-from-2
returns-then-size-from-2 c =
    let a = c.args in
    slot_short a.bytes.now a.lengths.now a.k c.byte_at-len.ensures (omega arith)

pub returns : goal.returns
returns c =
    let a = c.args in
    slot_whole a.bytes.now a.lengths.now a.k c.byte_at-len.ensures
