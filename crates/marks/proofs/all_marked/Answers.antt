-- `marks::all_marked` meets its contract: a word is below 2^32, so that it is never one below a higher power.
use mathlib.Core.Path.{sym, ap}
use Prim.Native.Nat.{ℕ, ◌+◌, ◌^◌, ◌≤◌}
use native.Mathlib.Omega.{arith}
use lib.Dec.{eqb}
use lib.Pow.{pow_mono}
use borrow.Author.Tests.{ne_eqb}
use Rattle.marks.specs.Marks.{all_marked}
use Rattle.marks.proofs.Marks.{power_is}
use Rattle.marks.proofs.all_marked.Goals as goal

pub returns-then-n-gt32 : goal.returns-then-n-gt32
unfolding all_marked
returns-then-n-gt32 c =
    let a = c.args in
    let h : 2 ^ 33 ≤ 2 ^ a.n = pow_mono c.if-n-gt32.true in
    sym (ne_eqb (a.marks + 1) (2 ^ a.n) (λ e. omega (arith, c.ranges.marks.fits)))

pub returns : goal.returns
unfolding all_marked
returns c =
    let a = c.args in
    ap (λ (x : ℕ). eqb (a.marks + 1) x) (power_is a.n c.if-n-gt32.false)
