-- Of any two sound devices: demand 3 puts both between the lowest and the highest of their end, and halves what lies between those.
use Rattle.std.specs.Prelude.{None, Some}
use mathlib.Core.Path.{◌≡◌, refl}
use Prim.Native.Nat.{ℕ, ◌+◌, ◌≤◌}
use native.Mathlib.Omega.{arith}
use lib.IntN.{ℤ, pos, ◌+ℤ◌}
use lib.Signed.{◌≤ℤ◌}
use Rattle.terms.specs.Entry.{Entry}
use Rattle.terms.proofs.Whole.{arithZ, gap_lin, sum_lin, pos_lin}
use Rattle.convergence.specs.Phases.{apart, spread}
use Rattle.convergence.specs.Demand3.{HeldBetween}
use Rattle.ring_devices.specs.Promised.{PairsClose}
use Rattle.ring_devices.proofs.Planting.{receives, receives_sound}

close_by : (s : ℕ) (low high p q : Entry) → HeldBetween low high p → HeldBetween low high q → apart low high ≤ s
    → (x : ℤ) × (y : ℤ) × (p ≡ Some x) × (q ≡ Some y) × (y ≤ℤ (x +ℤ pos s))
close_by s (Some low) (Some high) (Some x) (Some y) P Q l =
    let between : low ≤ℤ high = omega (arithZ, P.0, P.1) in
    (x, y, refl, refl, omega (arithZ, P.0, Q.1, gap_lin low high between, sum_lin x (pos s), pos_lin s))
close_by s None high None q P Q l = absurd P
close_by s None high (Some x) q P Q l = absurd P
close_by s (Some low) None None q P Q l = absurd P
close_by s (Some low) None (Some x) q P Q l = absurd P
close_by s (Some low) (Some high) None q P Q l = absurd P
close_by s (Some low) (Some high) (Some x) None P Q l = absurd Q

pub pairs_close : PairsClose
unfolding spread
pairs_close K n m f marks es now most few X i k h halves a b ta tb qa qb =
    let here = X.converges i 0 (omega arith) in
    let s = (X.converges i k h).halving halves in
    close_by _ _ _ _ _ (rw (same i) at (here.range a (receives n m most few a ta).1 (receives_sound n m _ a ta qa)))
    (rw (same i) at (here.range b (receives n m most few b tb).1 (receives_sound n m _ b tb qb))) s
  where
    same : (j : ℕ) → j + 0 ≡ j
    same j = omega arith
