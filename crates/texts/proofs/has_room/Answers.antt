-- `texts::has_room` meets its contract: what is left of 64 is compared.
use Rattle.texts.proofs.Writing.{room_past, room_left}
use Rattle.texts.proofs.has_room.Goals as goal

pub returns-then-len-gt64 : goal.returns-then-len-gt64
returns-then-len-gt64 c = let a = c.args in room_past a.len a.k c.if-len-gt64.true

pub returns : goal.returns
returns c = let a = c.args in room_left a.len a.k c.if-len-gt64.false
