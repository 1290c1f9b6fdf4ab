-- The four cases of `reading_between`, by what the code has found of its two numbers.
use mathlib.Core.Path.{◌≡◌, sym, ap, ◌∙◌, subst}
use mathlib.Core.Bool.{Bool, true, false, not}
use lib.Dec.{T}
use borrow.Author.Tests.{not-true, not-false}
use lib.IntN.{ℤ}
use lib.Ieee.{Float}
use mir.Syntax.{w32}
use mir.Val.{SFits, to_z, of_z}
use mir.Facts.{to_z-of_z}
use lib.Ieee.Bits.{is_true, is_false}
use lib.Dec.{not_T}
use Rattle.reading.specs.declared.KeptRange.{KeptRange}
use Rattle.reading.specs.declared.Reading.{Reading}
use Rattle.terms.specs.Positions.{is_position, eq_z}
use Rattle.terms.proofs.Whole.{eqZ→eq, eq_z_refl}
use Rattle.reading.specs.Exact.{exact}
use Rattle.reading.specs.Readings.{range_of, reading_between}

-- ---- what a test of the code says of the number

module _ {v : ℤ} {r : Bool} (f : SFits w32 v) (e : r ≡ is_position (to_z w32 (of_z w32 v))) where
  tested : r ≡ is_position v
  tested = e ∙ ap is_position (to_z-of_z f)

  pub out : not r ≡ true → is_position v ≡ false
  out t = sym tested ∙ not-true r t

  pub inside : not r ≡ false → is_position v ≡ true
  inside t = sym tested ∙ not-false r t

-- the machine compares two numbers by their bits
pub same_bits : {a b : ℤ} → SFits w32 a → SFits w32 b → of_z w32 a ≡ of_z w32 b → a ≡ b
same_bits f g e = sym (to_z-of_z f) ∙ ap (to_z w32) e ∙ to_z-of_z g

-- ---- the cases

module _ (a b : ℤ) where
  pub low_out : is_position a ≡ false → Reading.Unknown ≡ reading_between a b
  unfolding reading_between
  low_out p = rw p

  pub high_out : is_position a ≡ true → is_position b ≡ false → Reading.Unknown ≡ reading_between a b
  unfolding reading_between
  high_out p q = rw (p, q)

  pub point : {x : Float} → is_position a ≡ true → is_position b ≡ true → a ≡ b → x ≡ exact 0 a → Reading.Point x ≡ reading_between a b
  unfolding reading_between
  point p q e x =
      let t : eq_z a b ≡ true = is_true (eq_z a b) (subst (λ (z : ℤ). T (eq_z a z)) e (eq_z_refl a)) in
      rw (p, q, t) (ap Reading.Point x)

  pub range : {x : KeptRange} → is_position a ≡ true → is_position b ≡ true → (a ≡ b → ⊥) → x ≡ range_of a b → Reading.Range x ≡ reading_between a b
  unfolding reading_between
  range p q n x =
      let t : eq_z a b ≡ false = is_false (eq_z a b) (not_T (eq_z a b) (λ u. n (eqZ→eq a b u))) in
      rw (p, q, t) (ap Reading.Range x)
