-- The positions of sound receivers are one, or not, as the lowest and the highest are.
use Rattle.std.specs.Prelude.{None, Some}
use mathlib.Core.Path.{◌≡◌, refl, ap, ap₂, sym, subst, ◌∙◌}
use mathlib.Core.Bool.{Bool, true, false, cond}
use mathlib.Core.List.{List}
use lib.Dec.{T}
use lib.ListN.{replicate}
use lib.IntN.{ℤ}
use mir.Syntax.{w32}
use mir.Val.{SFits, to_z, of_z}
use mir.Facts.{to_z-of_z}
use Rattle.terms.specs.Positions.{eq_z}
use Rattle.terms.specs.Entry.{Entry}
use Rattle.terms.proofs.Whole.{eqZ→eq, eq_z_refl}
use Rattle.convergence.specs.Phases.{End}
use Rattle.ring_spec.specs.Rounds.{receivers}
use Rattle.ring_spec.specs.Agreed.{common, held_by_all, is_agreed}
use Rattle.run_listing.specs.Heights.{LowestHighest}
use Rattle.run_listing.specs.Level.{levelled}

module _ {e : End} {low high : Entry} (f : LowestHighest receivers e low high) where
  held_as : {x : Entry} → common low high ≡ x → held_by_all e ≡ x
  held_as c = ap₂ common (sym f.is_low) (sym f.is_high) ∙ c

  pub unlevelled : {ps : List ℤ} → common low high ≡ None → (false ≡ is_agreed (held_by_all e)) × (ps ≡ levelled (held_by_all e) ps)
  unlevelled c = rw (held_as c) (refl, refl)

  module _ {a b : ℤ} (l : low ≡ Some a) (h : high ≡ Some b) where
    pub two_positions : {ps : List ℤ} → (of_z w32 a ≡ of_z w32 b → ⊥) → (false ≡ is_agreed (held_by_all e)) × (ps ≡ levelled (held_by_all e) ps)
    two_positions differ = unlevelled (rw (l, h) (go (eq_z a b) (eqZ→eq a b)))
      where
        go : (t : Bool) → (T t → a ≡ b) → cond t (Some a) None ≡ None
        go true same = absurd (differ (ap (of_z w32) (same tt)))
        go false same = refl

    pub one_position : (ps : List ℤ) → SFits w32 a → SFits w32 b → of_z w32 a ≡ of_z w32 b
        → (true ≡ is_agreed (held_by_all e)) × (replicate receivers (to_z w32 (of_z w32 a)) ≡ levelled (held_by_all e) ps)
    one_position ps fits fits' bits = rw (held_as {x = Some a} (rw (l, h) (go (eq_z a b) (subst (λ (z : ℤ). T (eq_z a z)) same (eq_z_refl a)))), to_z-of_z fits) (refl, refl)
      where
        same : a ≡ b
        same = sym (to_z-of_z fits) ∙ ap (to_z w32) bits ∙ to_z-of_z fits'

        go : (t : Bool) → T t → cond t (Some a) None ≡ Some a
        go true t = refl
        go false t = absurd t
