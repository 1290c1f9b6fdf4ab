-- A spread halved k times, each time rounded up, is the spread divided by 2 to the power k, rounded up once.
use mathlib.Core.Path.{◌≡◌, ap, sym, ◌∙◌}
use Prim.Native.Nat.{ℕ, suc, ◌+◌, ◌-◌, ◌*◌, ◌/◌, ◌^◌, ◌<◌}
use native.Mathlib.Omega.{arith}
use native.Mathlib.Nat.{div-div-eq-div-mul, add-div_right, pow-suc}
use lib.Pow.{pow_pos}
use Rattle.convergence.specs.Demand3.{halved}

pub halved_zero : (s : ℕ) → halved 0 s ≡ s
unfolding halved
halved_zero s = omega arith

half_of_share : (q s : ℕ) → 0 < q → ((s + q - 1) / q + 1) / 2 ≡ (s + q * 2 - 1) / (q * 2)
half_of_share q s h =
    ap (λ (x : ℕ). x / 2) (sym (add-div_right (s + q - 1) h)) ∙ div-div-eq-div-mul (s + q - 1 + q) q 2 ∙ ap (λ (x : ℕ). x / (q * 2)) (omega arith)

pub halved_suc : (k s : ℕ) → (halved k s + 1) / 2 ≡ halved (suc k) s
unfolding halved
halved_suc k s = rw pow-suc (half_of_share (2 ^ k) s (pow_pos k))
