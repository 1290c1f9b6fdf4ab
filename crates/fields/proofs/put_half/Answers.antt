-- `fields::put_half` meets its contract: the two stores are the two that `over` makes, and past the end it makes none.
use mathlib.Core.Path.{sym}
use mathlib.Core.List.{[]}
use Rattle.fields.specs.Bytes.{put2, over}
use Rattle.fields.proofs.Bytes.{writes_past}
use Rattle.fields.proofs.put_half.Goals as goal

pub returns-then-at-s : goal.returns-then-at-s
unfolding over
returns-then-at-s c = c.put_byte.ensures

pub returns-else-at-s : goal.returns-else-at-s
returns-else-at-s c =
    let a = c.args in
    sym (writes_past (put2 a.x []) a.at a.s.now c.if-at-s.false)
