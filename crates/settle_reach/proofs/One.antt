-- The reach call has one answer at most. For a wanted position that is out of range it is none: what is brought lies between two entries that are kept.
use Rattle.std.specs.Prelude.{Option, Some, Ok, Err}
use mathlib.Core.Path.{◌≡◌, refl, ap, sym, ◌∙◌}
use native.Mathlib.Omega.{arith}
use lib.IntN.{ℤ}
use Rattle.terms.proofs.Whole.{arithZ}
use Rattle.settle_reach.specs.Reach.{Found}
use Rattle.settle_reach.specs.Reach.Found.{set, none}
use Rattle.settle_reach.specs.Call.{OneReachAnswer}
use Rattle.settle_reach.specs.Call.ReachAnswer.{refused, found}

one_found : {P : ℤ → Type 0} {a b : Option ℤ} → Found P a → Found P b → a ≡ b
one_found (set u l) (set w k) =
    let p = l.least w k.holds in
    let q = k.least u l.holds in
    ap (λ (w : ℤ). Some w) (omega arithZ)
one_found (set u l) (none never) = absurd (never u l.holds)
one_found (none never) (set u l) = absurd (never u l.holds)
one_found (none never) (none never') = refl

pub one_answer : OneReachAnswer
one_answer K n f p j m s x _ _ (refused c e) (refused d g) = ap Err (sym e ∙ g)
one_answer K n f p j m s x _ _ (refused c e) (found g a w) = absurd (omega (arith, e, g))
one_answer K n f p j m s x _ _ (found e a w) (refused c g) = absurd (omega (arith, e, g))
one_answer K n f p j m s x _ _ (found e a w) (found g b v) = ap (λ (o : Option ℤ). Ok o) (one_found w v)
