-- `texts::put_number_at` meets its contract: as many digits as the number has are its decimal digits.
use Prim.Native.Nat.{◌+◌}
use native.Mathlib.Omega.{arith}
use Rattle.texts.proofs.Digits.{spelled_decimal}
use Rattle.texts.proofs.Writing.{some_room, no_room, digits_put, digits_none}
use Rattle.texts.proofs.put_number_at.Goals as goal

pub put_digits-requires : goal.put_digits-requires
put_digits-requires c =
    let k = c.size_of-k.result in
    let room = some_room c.args.at (k + 1) c.has_room.ensures c.if-has_room.true in
    (c.told-line, omega arith, omega arith, omega (arith, room))

pub returns-then-has_room : goal.returns-then-has_room
returns-then-has_room c =
    let n = c.size_of-k in
    let a = c.args in
    let room = some_room a.at (n.result + 1) c.has_room.ensures c.if-has_room.true in
    digits_put 10 n.result a.x a.after (spelled_decimal a.x n.ensures.0) room c.put_digits.ensures

pub returns : goal.returns
returns c =
    let n = c.size_of-k in
    let a = c.args in
    digits_none 10 n.result a.x a.after (spelled_decimal a.x n.ensures.0)
    (no_room a.at (n.result + 1) c.has_room.ensures c.if-has_room.false)
