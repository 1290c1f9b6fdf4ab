-- `texts::put_hex_at` meets its contract: the digits in base 16 are the hexadecimal digits.
use native.Mathlib.Omega.{arith}
use Rattle.texts.proofs.Digits.{spelled_hex}
use Rattle.texts.proofs.Writing.{some_room, no_room, digits_put, digits_none}
use Rattle.texts.proofs.put_hex_at.Goals as goal

pub put_digits-requires : goal.put_digits-requires
put_digits-requires c =
    let room = some_room c.args.at 9 c.has_room.ensures c.if-has_room.true in
    (c.told-line, omega arith, omega arith, omega (arith, room))

pub returns-then-has_room : goal.returns-then-has_room
returns-then-has_room c =
    let a = c.args in
    let room = some_room a.at 9 c.has_room.ensures c.if-has_room.true in
    digits_put 16 8 a.x a.after (spelled_hex 8 a.x) room c.put_digits.ensures

pub returns : goal.returns
returns c =
    let a = c.args in
    digits_none 16 8 a.x a.after (spelled_hex 8 a.x) (no_room a.at 9 c.has_room.ensures c.if-has_room.false)
