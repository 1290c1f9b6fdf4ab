-- `marks::marks_below` meets its contract: the shift leaves nothing exactly if the word is below 2^n, which it is for each n from 32 up.
use mathlib.Core.Path.{sym}
use Prim.Native.Nat.{◌^◌, ◌≤◌}
use native.Mathlib.Omega.{arith}
use lib.Pow.{pow_mono}
use borrow.Author.Tests.{lt-ltb}
use Rattle.marks.specs.Marks.{marks_below}
use Rattle.marks.proofs.Marks.{shift_none}
use Rattle.marks.proofs.marks_below.Goals as goal

pub returns-then-n-lt32 : goal.returns-then-n-lt32
unfolding marks_below
returns-then-n-lt32 c = shift_none c.args.marks c.args.n

pub returns-else-n-lt32 : goal.returns-else-n-lt32
unfolding marks_below
returns-else-n-lt32 c =
    let h : 2 ^ 32 ≤ 2 ^ c.args.n = pow_mono c.if-n-lt32.false in
    sym (lt-ltb c.args.marks (2 ^ c.args.n) (omega arith))
