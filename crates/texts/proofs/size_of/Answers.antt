-- `texts::size_of` meets its contract: k - 1 digits are counted, and what is left of x is counted as the definition counts.
use mathlib.Core.Path.{◌≡◌}
use Prim.Native.Nat.{suc, ◌+◌, ◌-◌, ◌/◌}
use native.Mathlib.Omega.{arith}
use borrow.Author.Rules.{rules}
use Rattle.texts.specs.Numbers.{size}
use Rattle.texts.proofs.Digits.{size_small, size_more}
use Rattle.texts.proofs.size_of.Goals as goal

pub returns-then-rest-lt10 : goal.returns-then-rest-lt10
returns-then-rest-lt10 c = (omega (arith, size_small (10 - c.loop-k.k) c.loop-k.rest c.if-rest-lt10.true, c.loop-k.invariant), search rules)

pub loop-k-preserved : goal.loop-k-preserved
loop-k-preserved c =
    let l = c.loop-k in
    let s : 10 - l.k ≡ suc (10 - (l.k + 1)) = omega arith in
    let e : size (10 - l.k) l.rest ≡ suc (size (10 - (l.k + 1)) (l.rest / 10)) = rw s (size_more (10 - (l.k + 1)) l.rest c.if-rest-lt10.false) in
    omega (arith, l.invariant)

pub returns : goal.returns
unfolding size
returns c =
    let l = c.loop-k in
    let e : l.k ≡ 10 = omega arith in
    let one : size (10 - l.k) l.rest ≡ 1 = rw e in
    (omega (arith, l.invariant), search rules)
