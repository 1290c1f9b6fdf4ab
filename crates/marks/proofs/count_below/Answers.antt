-- `marks::count_below` meets its contract: the set bits of the word's rest by 2 ^ n, and from 32 on of the whole word, which is below 2 ^ 32.
use mathlib.Core.Path.{ap, ◌∙◌}
use Prim.Native.Nat.{ℕ, ◌%◌, ◌^◌, ◌≤◌}
use native.Mathlib.Omega.{arith}
use native.Mathlib.Nat.{mod-lt}
use lib.Count.{ones, ones-le}
use lib.Pow.{pow_pos, pow_mono}
use Rattle.marks.proofs.Ones.{ones_marked, ones_rest}
use Rattle.marks.proofs.count_below.Goals as goal

pub nonzero_rem-result : goal.nonzero_rem-result
nonzero_rem-result c = rw c.mark.ensures (pow_pos c.args.n)

pub overflow_cast-result : goal.overflow_cast-result
overflow_cast-result c =
    let a = c.args in
    record { fits = rw c.mark.ensures (omega (arith, ones-le a.n (a.marks % 2 ^ a.n) (mod-lt a.marks (pow_pos a.n)))) }

pub returns-then-n-lt32 : goal.returns-then-n-lt32
returns-then-n-lt32 c =
    let a = c.args in
    ap (λ (x : ℕ). ones (a.marks % x)) c.mark.ensures ∙ ones_rest a.n a.marks

pub overflow_cast-result-2 : goal.overflow_cast-result-2
overflow_cast-result-2 c = record { fits = omega (arith, ones-le 32 c.args.marks c.ranges.marks.fits) }

pub returns : goal.returns
returns c =
    let a = c.args in
    let h : 2 ^ 32 ≤ 2 ^ a.n = pow_mono c.if-n-lt32.false in
    ones_marked a.n a.marks (omega (arith, c.ranges.marks.fits))
