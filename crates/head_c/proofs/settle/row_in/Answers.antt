-- The part of the block in which they stand.
use mathlib.Core.Path.{◌≡◌, ap}
use Prim.Native.Nat.{ℕ, ◌+◌, ◌*◌, ◌-◌}
use native.Mathlib.Omega.{arith}
use lib.ListN.{take, drop}
use Rattle.head_c.proofs.settle.row_in.Goals as goal

pub returns : goal.returns
returns c =
    let a = c.args in
    let from = 92 + 32 * a.k in
    let e : from + 32 - from ≡ 32 = omega arith in
    ap (λ (n : ℕ). take n (drop from a.h.now)) e
