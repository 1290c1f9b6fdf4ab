-- A reading has one step at most. A step v reads x exactly if v times the numerator lies from x times the denominator on, below a denominator
-- more. The numerator is at least the denominator, and in a stretch of its own length lies one multiple of it: that of the quotient rounded up.
use mathlib.Core.Path.{◌≡◌, subst}
use mathlib.Core.Bool.{true, ◌&&◌}
use Prim.Native.Nat.{ℕ, suc, ◌-◌, ◌*◌, ◌≤◌, ◌<◌}
use native.Mathlib.Nat.{mul-le-mul, le_refl}
use native.Mathlib.Omega.{arith}
use lib.Dec.{leb}
use lib.IntN.{ℤ, pos, negsuc, ◌+ℤ◌, ◌*ℤ◌}
use lib.Signed.{◌≤ℤ◌, ◌<ℤ◌}
use mir.Facts.{and_yes, leb_yes}
use denote.Floats.{passes}
use Rattle.terms.specs.Positions.{Within, floor_div}
use Rattle.terms.proofs.Whole.{plus, minus, arithZ, sum_lin, pos_lin, not_le, dec_le_z}
use Rattle.steps.specs.Scale.{in_scale, is_scale, nanometres}
use Rattle.steps.specs.Unscale.{OnlyOne}
use Rattle.steps.proofs.Floor.{negative_lin, one_more_times, floor_is, product_within, scale_within}

-- ---- multiples

times_rises : (a : ℕ) (x y : ℤ) → x ≤ℤ y → (x *ℤ pos a) ≤ℤ (y *ℤ pos a)
unfolding plus minus
times_rises a (pos m) (pos n) h =
    let k : m ≤ n = omega arithZ in
    omega (arithZ, mul-le-mul k (le_refl a))
times_rises a (pos m) (negsuc n) h = absurd h.le
times_rises a (negsuc m) (pos n) h = omega (arithZ, negative_lin (suc m * a))
times_rises a (negsuc m) (negsuc n) h =
    let k : suc n ≤ suc m = omega arithZ in
    omega (arithZ, negative_lin (suc m * a), negative_lin (suc n * a), mul-le-mul k (le_refl a))

-- from p on, below p + a
abbrev In : ℤ → ℕ → ℤ → Type 0
In p a z = (p ≤ℤ z) × (z <ℤ (p +ℤ pos a))

in_order : (p : ℤ) (a : ℕ) (v w : ℤ) → In p a (v *ℤ pos a) → In p a (w *ℤ pos a) → v ≤ℤ w
in_order p a v w h k = go (dec_le_z v w)
  where
    go : Dec (v ≤ℤ w) → v ≤ℤ w
    go (yes l) = l
    go (no n) =
        let above : (w +ℤ pos 1) ≤ℤ v = omega (arithZ, not_le n, sum_lin w (pos 1), pos_lin 1) in
        let far : (w *ℤ pos a +ℤ pos a) ≤ℤ (v *ℤ pos a) = subst (λ (z : ℤ). z ≤ℤ (v *ℤ pos a)) (one_more_times w a) (times_rises a (w +ℤ pos 1) v above) in
        omega (arithZ, sum_lin p (pos a), sum_lin (w *ℤ pos a) (pos a))

one_multiple : (p : ℤ) (a : ℕ) (v w : ℤ) → In p a (v *ℤ pos a) → In p a (w *ℤ pos a) → v ≡ w
one_multiple p a v w h k = omega (arithZ, in_order p a v w h k, in_order p a w v k h)

-- ---- the quotient rounded up

abbrev pub rounded_up : ℤ → ℕ → ℤ
rounded_up p a = floor_div (p +ℤ pos (a - 1)) a

rounded_up_in : (p : ℤ) (a : ℕ) → 0 < a → In p a (rounded_up p a *ℤ pos a)
rounded_up_in p a h =
    let q = rounded_up p a in
    let f = floor_is (p +ℤ pos (a - 1)) a h in
    let l : (p +ℤ pos (a - 1)) <ℤ (q *ℤ pos a +ℤ pos a) = subst (λ (z : ℤ). (p +ℤ pos (a - 1)) <ℤ z) (one_more_times q a) f.1 in
    omega (arithZ, f.0, sum_lin p (pos (a - 1)), pos_lin (a - 1), sum_lin (q *ℤ pos a) (pos a), sum_lin p (pos a), pos_lin a)

-- ---- steps that read x

module _ (a d : ℕ) (s : is_scale a d ≡ true) where
  numerator_above : d ≤ a
  unfolding is_scale
  numerator_above = leb_yes (and_yes (in_scale a && in_scale d) (leb d a) (passes _ s)).1

  pub scale_above : 0 < a
  scale_above = omega (arith, numerator_above, (scale_within a d s).1)

  denominator_within : d ≤ 1_000_000
  denominator_within = omega (arith, numerator_above, (scale_within a d s).0)

  -- a reading that a step in range can have, times the denominator
  pub reading_product_bound : (x : ℤ) → Within 1_000_000_000_000 x → Within 1_000_000_000_000_000_000 (x *ℤ pos d)
  reading_product_bound x h = product_within 1_000_000_000_000 1_000_000 x d h denominator_within

  reading_in : (x v : ℤ) → nanometres v a d ≡ x → In (x *ℤ pos d) a (v *ℤ pos a)
  unfolding nanometres
  reading_in x v e =
      let f = subst (λ (q : ℤ). ((q *ℤ pos d) ≤ℤ (v *ℤ pos a)) × ((v *ℤ pos a) <ℤ ((q +ℤ pos 1) *ℤ pos d))) e (floor_is (v *ℤ pos a) d (scale_within a d s).1) in
      let l : (v *ℤ pos a) <ℤ (x *ℤ pos d +ℤ pos d) = subst (λ (z : ℤ). (v *ℤ pos a) <ℤ z) (one_more_times x d) f.1 in
      omega (arithZ, f.0, sum_lin (x *ℤ pos d) (pos d), sum_lin (x *ℤ pos d) (pos a), pos_lin d, pos_lin a, numerator_above)

  pub only_rounded_up : (x : ℤ) → OnlyOne x a d (rounded_up (x *ℤ pos d) a)
  only_rounded_up x v e = one_multiple (x *ℤ pos d) a v (rounded_up (x *ℤ pos d) a) (reading_in x v e) (rounded_up_in (x *ℤ pos d) a scale_above)
