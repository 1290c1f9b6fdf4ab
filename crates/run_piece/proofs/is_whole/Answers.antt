-- `run_piece::is_whole` meets its contract: what was tested on the way is what it promises.
use mathlib.Core.Path.{sym}
use mathlib.Core.Bool.{true≢false}
use native.Mathlib.Omega.{arith}
use borrow.Author.Rules.{rules}
use borrow.Author.Tests.{leb-true}
use Rattle.run_piece.proofs.is_whole.Goals as goal

pub returns-then-p-ne0 : goal.returns-then-p-ne0
returns-then-p-ne0 c e = absurd (true≢false (sym e))

pub returns-then-size-ge4 : goal.returns-then-size-ge4
returns-then-size-ge4 c e =
    let h = c.half_at-size.ensures in
    record { fresh = search rules; within = omega (arith, h, leb-true, e); long = omega (arith, h, c.if-size-ge4.true) }

pub returns-else-size-ge4 : goal.returns-else-size-ge4
returns-else-size-ge4 c e = absurd (omega (arith, leb-true, e, c.if-size-ge4.false))
