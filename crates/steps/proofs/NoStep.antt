-- Where the code answers none: no step in range reads farther from zero than 10^12, and where only w can read x, none does if w is out of range or
-- reads otherwise.
use Rattle.std.specs.Prelude.{None, Ok}
use mathlib.Core.Path.{◌≡◌, sym, ◌∙◌, ap, subst}
use mathlib.Core.Bool.{Bool, true, false, true≢false, not, and-false}
use Prim.Native.Nat.{ℕ}
use lib.IntN.{ℤ, pos, negsuc}
use lib.Signed.{le_z, lt_z, le_z_yes, lt_z_yes, clash_ℤ}
use borrow.Author.Tests.{ltb-true, ltb-false, le-leb, lt-leb}
use denote.Floats.{passes}
use Rattle.terms.specs.Positions.{is_position, Within}
use Rattle.steps.specs.Scale.{is_scale, nanometres}
use Rattle.steps.specs.Unscale.{OnlyOne, UnscaleAnswer}
use Rattle.steps.specs.Unscale.UnscaleAnswer.{none}
use Rattle.steps.proofs.Floor.{nanometres_bound}

-- ---- tests

-- what is not below is at least
at_least : (x y : ℤ) (t : Bool) → lt_z y x ≡ t → le_z x y ≡ not t
at_least (pos m) (pos n) true e = lt-leb m n (ltb-true n m e)
at_least (pos m) (pos n) false e = le-leb m n (ltb-false n m e)
at_least (pos m) (negsuc n) t e = ap not e
at_least (negsuc m) (pos n) t e = ap not e
at_least (negsuc m) (negsuc n) true e = lt-leb n m (ltb-true m n e)
at_least (negsuc m) (negsuc n) false e = le-leb n m (ltb-false m n e)

module _ (v : ℤ) where
  pub below_range : lt_z v (negsuc 999_999) ≡ true → is_position v ≡ false
  unfolding is_position
  below_range t = simp (at_least (negsuc 999_999) v true t)

  pub above_range : lt_z (pos 1_000_000) v ≡ true → is_position v ≡ false
  unfolding is_position
  above_range t = simp (at_least v (pos 1_000_000) true t, and-false)

  pub in_range : lt_z v (negsuc 999_999) ≡ false → lt_z (pos 1_000_000) v ≡ false → is_position v ≡ true
  unfolding is_position
  in_range t u = simp (at_least (negsuc 999_999) v false t, at_least v (pos 1_000_000) false u)

pub near : (x : ℤ) → lt_z x (negsuc 999_999_999_999) ≡ false → lt_z (pos 1_000_000_000_000) x ≡ false → Within 1_000_000_000_000 x
near x t u = (le_z_yes (passes _ (at_least (negsuc 999_999_999_999) x false t)), le_z_yes (passes _ (at_least x (pos 1_000_000_000_000) false u)))

-- ---- none

module _ (x : ℤ) (a d : ℕ) (s : is_scale a d ≡ true) where
  far : (Within 1_000_000_000_000 x → ⊥) → UnscaleAnswer x a d (Ok None)
  far n = none s (λ v r. n (subst (Within 1_000_000_000_000) r.1 (nanometres_bound v a d r.0 s)))

  pub far_below : lt_z x (negsuc 999_999_999_999) ≡ true → UnscaleAnswer x a d (Ok None)
  far_below t = far (λ w. clash_ℤ (lt_z_yes (passes _ t)) w.0)

  pub far_above : lt_z (pos 1_000_000_000_000) x ≡ true → UnscaleAnswer x a d (Ok None)
  far_above t = far (λ w. clash_ℤ (lt_z_yes (passes _ t)) w.1)

  -- w is the only number of steps that can read x
  module _ (w : ℤ) (only : OnlyOne x a d w) where
    pub out_of_range : is_position w ≡ false → UnscaleAnswer x a d (Ok None)
    out_of_range e = none s (λ v r. true≢false (sym r.0 ∙ ap is_position (only v r.1) ∙ e))

    pub reads_otherwise : (nanometres w a d ≡ x → ⊥) → UnscaleAnswer x a d (Ok None)
    reads_otherwise n = none s (λ v r. n (sym (ap (λ (z : ℤ). nanometres z a d) (only v r.1)) ∙ r.1))
