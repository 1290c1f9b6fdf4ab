-- `floor_div` is the floor: x lies between the quotient times the divisor and one divisor more. A floor lies no farther from zero than what is
-- divided, and a position times the numerator of a scale lies within 10^12 either way, so nanometres lie between -10^12 and 10^12.
use mathlib.Core.Path.{◌≡◌, ◌∙◌, ap}
use mathlib.Core.Bool.{true, ◌&&◌}
use Prim.Native.Nat.{ℕ, suc, ◌+◌, ◌*◌, ◌/◌, ◌≤◌, ◌<◌}
use native.Mathlib.Nat.{suc-mul, mul-le-mul, div-le_self, div-mul-le_self, lt-div-mul-add}
use lib.Dec.{leb}
use lib.IntN.{ℤ, pos, negsuc, neg_ℤ, ◌+ℤ◌, ◌*ℤ◌, +ℤ_one, +ℤ_invr, suc_ℤ-*ℤ}
use lib.Signed.{◌≤ℤ◌, ◌<ℤ◌}
use mir.Facts.{and_yes, leb_yes}
use denote.Floats.{passes}
use Rattle.terms.specs.Positions.{is_position, Within, floor_div}
use Rattle.terms.proofs.Whole.{plus, minus, arithZ, sum_lin, pos_lin, position_within}
use Rattle.steps.specs.Scale.{in_scale, is_scale, nanometres}

-- the negative of a natural number, for `omega`
pub negative_lin : (m : ℕ) → plus (neg_ℤ (pos m)) + m ≡ minus (neg_ℤ (pos m))
negative_lin m = omega (arithZ, sum_lin (pos m) (neg_ℤ (pos m)), +ℤ_invr (pos m), pos_lin m, pos_lin 0)

pub one_more_times : (q : ℤ) (d : ℕ) → (q +ℤ pos 1) *ℤ pos d ≡ q *ℤ pos d +ℤ pos d
one_more_times q d = ap (λ (z : ℤ). z *ℤ pos d) (+ℤ_one q) ∙ suc_ℤ-*ℤ q (pos d)

pub floor_is : (x : ℤ) (d : ℕ) → 0 < d → ((floor_div x d *ℤ pos d) ≤ℤ x) × (x <ℤ ((floor_div x d +ℤ pos 1) *ℤ pos d))
unfolding floor_div plus minus
floor_is (pos n) d h = rw one_more_times (omega (arithZ, div-mul-le_self n d, lt-div-mul-add {a = n} h))
floor_is (negsuc n) d h =
    rw one_more_times
    (omega
    (arithZ, div-mul-le_self n d, lt-div-mul-add {a = n} h, suc-mul (n / d) d, negative_lin (suc (n / d) * d), sum_lin (neg_ℤ (pos (suc (n / d) * d))) (pos d)))

floor_within : (b : ℕ) (x : ℤ) (d : ℕ) → Within b x → Within b (floor_div x d)
unfolding floor_div plus minus
floor_within b (pos n) d h = omega (arithZ, negative_lin b, div-le_self n d)
floor_within b (negsuc n) d h = omega (arithZ, negative_lin b, div-le_self n d)

pub product_within : (b c : ℕ) (x : ℤ) (a : ℕ) → Within b x → a ≤ c → Within (b * c) (x *ℤ pos a)
unfolding plus minus
product_within b c (pos n) a h l =
    let k : n ≤ b = omega arithZ in
    omega (arithZ, negative_lin (b * c), mul-le-mul k l)
product_within b c (negsuc n) a h l =
    let k : suc n ≤ b = omega (arithZ, negative_lin b) in
    omega (arithZ, negative_lin (b * c), negative_lin (suc n * a), mul-le-mul k l)

pub scale_within : (a d : ℕ) → is_scale a d ≡ true → (a ≤ 1_000_000) × (0 < d)
unfolding is_scale
scale_within a d s =
    let h = and_yes (in_scale a) (in_scale d) (and_yes (in_scale a && in_scale d) (leb d a) (passes _ s)).0 in
    (leb_yes (and_yes (leb 1 a) (leb a 1_000_000) h.0).1, leb_yes (and_yes (leb 1 d) (leb d 1_000_000) h.1).0)

module _ (v : ℤ) (a d : ℕ) (p : is_position v ≡ true) (s : is_scale a d ≡ true) where
  pub scale_product_bound : Within 1_000_000_000_000 (v *ℤ pos a)
  scale_product_bound = product_within 1_000_000 1_000_000 v a (position_within v p) (scale_within a d s).0

  pub nanometres_bound : Within 1_000_000_000_000 (nanometres v a d)
  unfolding nanometres
  nanometres_bound = floor_within 1_000_000_000_000 (v *ℤ pos a) d scale_product_bound
