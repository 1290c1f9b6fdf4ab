-- How the machine makes a number with a sign of a word, and a word of the number. The word's upper half, and the numbers below zero, go by -1 - z,
-- which turns the sign and keeps the size, so that it fits wherever z does.
use mathlib.Core.Path.{◌≡◌, refl, ap, sym, ◌∙◌}
use mathlib.Core.Bool.{true, false, true≢false}
use Prim.Native.Nat.{ℕ, ◌-◌, ◌≤◌, ◌<◌}
use native.Mathlib.Omega.{arith}
use lib.IntN.{ℤ, pos, negsuc, nat_abs, ◌-ℤ◌}
use lib.Signed.{mag, lt_z}
use mir.Syntax.{w32}
use mir.Val.{Fits, SFits, to_z, of_z}
use mir.Facts.{to_z-of_z, to_z_pos, sfits_to_z}
use borrow.Author.Tests.{ltb-true}
use Rattle.terms.proofs.Machine.{turned, turned_is, turned_fits}
use Rattle.fields.specs.Bytes.{signed_of, word_of}
use Rattle.fields.proofs.Bytes.{to_z_signed, signed_high}

-- ---- a number of a word from 2^31 up

module _ (x : ℕ) (f : Fits w32 x) (h : 2147483648 ≤ x) where
  high_is : negsuc 0 -ℤ to_z w32 (4294967295 - x) ≡ signed_of x
  high_is =
      let l : 4294967295 - x < 2147483648 = omega arith in
      ap (λ (z : ℤ). negsuc 0 -ℤ z) (to_z_pos w32 l) ∙ turned_is (pos (4294967295 - x)) ∙ sym (signed_high x h)

  signed_fits : SFits w32 (signed_of x)
  signed_fits = rw (← to_z_signed x) (sfits_to_z f)

  pub high_read : to_z w32 (of_z w32 (negsuc 0 -ℤ to_z w32 (4294967295 - x))) ≡ signed_of x
  high_read = ap (λ (z : ℤ). to_z w32 (of_z w32 z)) high_is ∙ to_z-of_z signed_fits

-- ---- a word of a number

below_zero : (v : ℤ) → lt_z v (pos 0) ≡ true → (turned v ≡ pos (mag v)) × (4294967295 - mag v ≡ word_of v)
unfolding word_of
below_zero (pos n) t = let h : n < 0 = ltb-true n 0 t in absurd (omega arith)
below_zero (negsuc n) t = (refl, refl)

from_zero : (v : ℤ) → lt_z v (pos 0) ≡ false → (v ≡ pos (mag v)) × (mag v ≡ word_of v)
unfolding word_of
from_zero (pos n) t = (refl, refl)
from_zero (negsuc n) t = absurd (true≢false t)

module _ (v : ℤ) (f : SFits w32 v) where
  turned_read : negsuc 0 -ℤ to_z w32 (of_z w32 v) ≡ turned v
  turned_read = ap (λ (z : ℤ). negsuc 0 -ℤ z) (to_z-of_z f) ∙ turned_is v

  module _ (t : lt_z (to_z w32 (of_z w32 v)) (pos 0) ≡ true) where
    is_below : lt_z v (pos 0) ≡ true
    is_below = ap (λ (z : ℤ). lt_z z (pos 0)) (sym (to_z-of_z f)) ∙ t

    pub below_read : to_z w32 (of_z w32 (negsuc 0 -ℤ to_z w32 (of_z w32 v))) ≡ pos (mag v)
    below_read = ap (λ (z : ℤ). to_z w32 (of_z w32 z)) turned_read ∙ to_z-of_z (turned_fits v f) ∙ (below_zero v is_below).0

    pub below_word : 4294967295 - nat_abs (to_z w32 (of_z w32 (negsuc 0 -ℤ to_z w32 (of_z w32 v)))) ≡ word_of v
    below_word = ap (λ (z : ℤ). 4294967295 - nat_abs z) below_read ∙ (below_zero v is_below).1

  module _ (t : lt_z (to_z w32 (of_z w32 v)) (pos 0) ≡ false) where
    not_below : lt_z v (pos 0) ≡ false
    not_below = ap (λ (z : ℤ). lt_z z (pos 0)) (sym (to_z-of_z f)) ∙ t

    pub above_read : to_z w32 (of_z w32 v) ≡ pos (mag v)
    above_read = to_z-of_z f ∙ (from_zero v not_below).0

    pub above_word : nat_abs (to_z w32 (of_z w32 v)) ≡ word_of v
    above_word = ap nat_abs above_read ∙ (from_zero v not_below).1
