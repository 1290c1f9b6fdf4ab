-- `run_listing::verdict_line` meets its contract: 0 is the end of a file, and any other number, the successor of some number, is a refusal.
use mathlib.Core.Path.{◌≡◌}
use Prim.Native.Nat.{suc, ◌-◌}
use native.Mathlib.Omega.{arith}
use Rattle.texts.proofs.Digits.{decimal_short}
use Rattle.texts.proofs.Writing.{from_empty, longer_then, put_fits}
use Rattle.run_listing.proofs.verdict_line.Goals as goal

pub returns-then-number-eq0 : goal.returns-then-number-eq0
returns-then-number-eq0 c =
    let o = c.empty.ensures in
    let line = put_fits 4 (omega arith) (omega (arith, o)) c.put.ensures in
    record { result_value = rw c.if-number-eq0.true (from_empty o line); len_bound = omega (arith, o, line.room) }

pub returns-else-number-eq0 : goal.returns-else-number-eq0
returns-else-number-eq0 c =
    let n = c.args.number in
    let o = c.empty-else-number-eq0.ensures in
    let e : n ≡ suc (n - 1) = omega (arith, c.if-number-eq0.false) in
    let word = put_fits 8 (omega arith) (omega (arith, o)) c.put-else-number-eq0.ensures in
    let number = put_fits 11 (decimal_short n 10) (omega (arith, o, word.room)) c.put_number.ensures in
    record { result_value = rw e (rw e at (from_empty o (longer_then word number))); len_bound = omega (arith, o, word.room, number.room) }
