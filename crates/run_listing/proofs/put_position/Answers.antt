-- `run_listing::put_position` meets its contract: below zero a minus sign, and what the height lacks of 2^31; else what it has above.
use mathlib.Core.Path.{◌≡◌, ap}
use mathlib.Core.List.{List, [], ◌∷◌, ◌++◌}
use Prim.Native.Nat.{ℕ, suc, ◌-◌, ◌≤◌, ◌<◌}
use native.Mathlib.Omega.{arith}
use lib.IntN.{ℤ, pos, negsuc}
use mir.Syntax.{w32}
use mir.Val.{SFits}
use Rattle.texts.specs.Numbers.{decimal, whole}
use Rattle.run_listing.specs.Heights.{height_of}
use Rattle.run_listing.proofs.Heights.{height_read}
use Rattle.texts.proofs.Writing.{longer_then, longer_as, put_fits}
use Rattle.texts.proofs.Digits.{decimal_short}
use Rattle.run_listing.proofs.put_position.Goals as goal

-- a number is below zero if its height is below 2^31
whole_below : (v : ℤ) {h : ℕ} → SFits w32 v → h ≡ height_of v → h < 2147483648 → 45 ∷ decimal (2147483648 - h) ≡ whole v
unfolding height_of
whole_below (pos n) f e l = absurd (omega arith)
whole_below (negsuc n) {h} f e l =
    let k : 2147483648 - h ≡ suc n = omega (arith, f.sfits) in
    ap (λ (x : ℕ). 45 ∷ decimal x) k

whole_above : (v : ℤ) {h : ℕ} → h ≡ height_of v → 2147483648 ≤ h → decimal (h - 2147483648) ≡ whole v
unfolding height_of
whole_above (pos n) {h} e l = let k : h - 2147483648 ≡ n = omega arith in ap decimal k
whole_above (negsuc n) e l = absurd (omega arith)

pub returns-then-h-lt2147483648 : goal.returns-then-h-lt2147483648
returns-then-h-lt2147483648 c =
    let e = whole_below _ c.ranges.v (height_read c.ranges.v c.height-h.ensures) c.if-h-lt2147483648.true in
    let x = 2147483648 - c.height-h.result in
    let sign = put_fits 1 (omega arith) (omega arith) c.put_at-to.ensures in
    let number = put_fits 11 (decimal_short x 32) (omega (arith, sign.room)) c.put_number_at.ensures in
    longer_as (ap (λ (l : List ℕ). l ++ (32 ∷ [])) e) (omega arith) (longer_then sign number)

pub returns-else-h-lt2147483648 : goal.returns-else-h-lt2147483648
returns-else-h-lt2147483648 c =
    let e = whole_above _ (height_read c.ranges.v c.height-h.ensures) c.if-h-lt2147483648.false in
    let number = put_fits 11 (decimal_short (c.height-h.result - 2147483648) 32) (omega arith) c.put_number_at-else-h-lt2147483648.ensures in
    longer_as (ap (λ (l : List ℕ). l ++ (32 ∷ [])) e) (omega arith) number
