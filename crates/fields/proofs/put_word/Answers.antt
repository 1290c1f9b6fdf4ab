-- `fields::put_word` meets its contract: on both ways the four stores are those that `over` makes, and past the end it makes none.
use mathlib.Core.Path.{refl, sym}
use mathlib.Core.List.{[]}
use Rattle.fields.specs.Bytes.{put4}
use Rattle.fields.proofs.Bytes.{writes_past, one_by_one}
use Rattle.fields.proofs.put_word.Goals as goal

pub returns-then-size-at-ge4 : goal.returns-then-size-at-ge4
returns-then-size-at-ge4 c =
    let a = c.args in
    one_by_one a.s.now a.at _ _ _ _ refl refl refl

pub returns-else-size-at-ge4 : goal.returns-else-size-at-ge4
returns-else-size-at-ge4 c =
    let a = c.args in
    one_by_one a.s.now a.at _ _ _ _ c.put_byte.ensures c.put_byte-else-size-at-ge4.ensures c.put_byte-else-size-at-ge4-2.ensures

pub returns-else-at-size : goal.returns-else-at-size
returns-else-at-size c =
    let a = c.args in
    sym (writes_past (put4 a.x []) a.at a.s.now c.if-at-size.false)
