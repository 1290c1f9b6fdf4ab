-- `steps::is_scale` meets its contract: a numerator up to the limit bounds the denominator too.
use mathlib.Core.Path.{◌≡◌, refl, sym}
use mathlib.Core.Bool.{Bool, true, false, ◌&&◌, and-false, and-true}
use Prim.Native.Nat.{ℕ, ◌≤◌, ◌<◌}
use native.Mathlib.Nat.{pos_of_ne-zero}
use native.Mathlib.Omega.{arith}
use lib.Dec.{leb}
use borrow.Author.Tests.{le-leb, lt-leb, leb-true}
use Rattle.steps.specs.Scale.{is_scale}
use Rattle.steps.proofs.is_scale.Goals as goal

no_denominator : (a d : ℕ) → d ≡ 0 → false ≡ is_scale a d
unfolding is_scale
no_denominator a d h = simp (h, and-false)

numerator_below : (a d : ℕ) → a < d → false ≡ is_scale a d
unfolding is_scale
numerator_below a d h = simp (lt-leb d a h, and-false)

limit_bounds_both : (a d m : ℕ) → d ≤ a → leb a m ≡ (leb a m && leb d m)
limit_bounds_both a d m h = go (leb a m) refl
  where
    go : (t : Bool) → leb a m ≡ t → t ≡ (t && leb d m)
    go true e = sym (le-leb d m (omega (arith, leb-true a m e)))
    go false e = refl

by_limit : (a d : ℕ) → 0 < d → d ≤ a → leb a 1_000_000 ≡ is_scale a d
unfolding is_scale
by_limit a d p h = let q : 1 ≤ a = omega arith in simp (le-leb 1 a q, le-leb 1 d p, le-leb d a h, and-true) (limit_bounds_both a d 1_000_000 h)

pub returns-then-denominator-eq0 : goal.returns-then-denominator-eq0
returns-then-denominator-eq0 c = no_denominator _ _ c.if-denominator-eq0.true

pub returns-then-numerator-denominator : goal.returns-then-numerator-denominator
returns-then-numerator-denominator c = numerator_below _ _ c.if-numerator-denominator.true

pub returns : goal.returns
returns c = by_limit _ _ (pos_of_ne-zero c.if-denominator-eq0.false) c.if-numerator-denominator.false
