-- `texts::put_at` meets its contract: the bytes are put where there is room for them.
use lib.ListN.{length}
use Rattle.texts.proofs.Writing.{some_room, no_room, puts_all, puts_none}
use Rattle.texts.proofs.put_at.Goals as goal

pub put_within-requires : goal.put_within-requires
put_within-requires c =
    let a = c.args in
    (c.told-line, some_room a.at (length a.s.now) c.has_room.ensures c.if-has_room.true)

pub returns-then-has_room : goal.returns-then-has_room
returns-then-has_room c =
    let a = c.args in
    puts_all (some_room a.at (length a.s.now) c.has_room.ensures c.if-has_room.true) c.put_within.ensures

pub returns : goal.returns
returns c =
    let a = c.args in
    puts_none (no_room a.at (length a.s.now) c.has_room.ensures c.if-has_room.false)
