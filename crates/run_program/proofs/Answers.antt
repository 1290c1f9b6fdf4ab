-- The answer of C's read and write: below zero for a failure, and else a count.
use mathlib.Core.Path.{◌≡◌, sym, ◌∙◌, ap}
use mathlib.Core.Bool.{true, false}
use Prim.Native.Nat.{ℕ}
use native.Mathlib.Omega.{arith}
use lib.Dec.{T}
use lib.IntN.{ℤ, pos, negsuc, nat_abs}
use lib.Signed.{mag, lt_z, non_neg}
use mir.Syntax.{w64}
use mir.Val.{Fits, SFits}
use mir.Facts.{to_z-of_z}
use Rattle.terms.proofs.Machine.{read, negative_is, natural_is}
use Rattle.run_program.specs.declared.Did.{Did}

module _ (v : ℤ) (f : SFits w64 v) where
  pub failure : lt_z (read w64 v) (pos 0) ≡ true → v ≡ negsuc (mag v)
  failure t = negative_is v (rw (to_z-of_z f) at t)

  module _ (t : lt_z (read w64 v) (pos 0) ≡ false) where
    count : v ≡ pos (mag v)
    count = natural_is v (rw (to_z-of_z f) at t)

    pub casts : T (non_neg (read w64 v)) × Fits w64 (nat_abs (read w64 v))
    casts = rw (to_z-of_z f, count) (tt, record { fits = omega (arith, f.sfits) })

    pub counts : (made : ℕ → Did) (by : ℤ → Did) → ((k : ℕ) → made k ≡ by (pos k)) → made (nat_abs (read w64 v)) ≡ by v
    counts made by h = ap (λ (z : ℤ). made (nat_abs z)) (to_z-of_z f ∙ count) ∙ h (mag v) ∙ ap by (sym count)
