-- Nothing is rounded (`NothingRounded`). `exact k z` is z / 2 ^ k (`exact_is`), an f32 holds it (`exact_holds`), and no other f32 is that number with that sign
-- (`exact_only`). A sum of positions stays below 2 ^ 24, so `round` leaves it and its half as they are.
use mathlib.Core.Path.{◌≡◌, refl, ap, ◌∙◌, subst}
use mathlib.Core.Bool.{Bool, true, false, cond, not, ◌&&◌}
use Prim.Native.Nat.{ℕ, suc, ◌+◌, ◌-◌, ◌^◌, ◌≤◌, ◌<◌}
use native.Mathlib.Nat.{mul-one}
use native.Mathlib.Omega.{arith}
use borrow.Author.Tests.{leb-true}
use Rattle.terms.proofs.Booleans.{and_both}
use lib.Dec.{T, ltb, leb, le→leb, ltb→lt, nltb→le, lt→ltb}
use lib.Pow.{pow_pos}
use lib.IntN.{ℤ, pos, negsuc, nat_abs, sub_ℕ, ◌+ℤ◌}
use lib.Ieee.{Float, binary32, odd, round, sum, add, mul, fits, of_int, in_float, of_bits}
use lib.Ieee.Exact.{HasValue, odd_sign}
use Rattle.terms.specs.Positions.{is_position}
use Rattle.reading.specs.Exact.{exact, Is}
use Rattle.reading.specs.Exactness.{NothingRounded}
use Rattle.reading.proofs.OneFloat.{one_float}
use Rattle.reading.proofs.Unrounded.{odd_holds, odd_is, round_odd, add_whole, mul_half, one_half}

-- ---- the definition

pub exact_is : (k : ℕ) (z : ℤ) → Is (exact k z) z (2 ^ k)
unfolding exact
exact_is k (pos n) = subst (λ (x : ℕ). HasValue (odd 24 false n 0 k) false x (2 ^ k)) (mul-one n) (odd_sign 24 false n 0 k)
exact_is k (negsuc n) = subst (λ (x : ℕ). HasValue (odd 24 true (suc n) 0 k) true x (2 ^ k)) (mul-one (suc n)) (odd_sign 24 true (suc n) 0 k)

pub exact_holds : (k : ℕ) (z : ℤ) → k ≤ 149 → nat_abs z < 2 ^ 24 → T (fits binary32 (exact k z))
unfolding exact
exact_holds k (pos n) l h = odd_holds false n k h l
exact_holds k (negsuc n) l h = odd_holds true (suc n) k h l

pub exact_only : (k : ℕ) (z : ℤ) (x : Float) → k ≤ 149 → nat_abs z < 2 ^ 24 → T (fits binary32 x) → Is x z (2 ^ k) → x ≡ exact k z
unfolding exact
exact_only k (pos n) x l h f v = one_float binary32 x (odd 24 false n 0 k) false n (2 ^ k) (pow_pos k) f (odd_holds false n k h l) v (odd_is false n k h l)
exact_only k (negsuc n) x l h f v = one_float binary32 x (odd 24 true (suc n) 0 k) true (suc n) (2 ^ k) (pow_pos k) f (odd_holds true (suc n) k h l) v (odd_is true (suc n) k h l)

-- ---- positions

pub position_size : (z : ℤ) → is_position z ≡ true → nat_abs z ≤ 1_000_000
unfolding is_position
position_size (pos n) t = leb-true n 1_000_000 t
position_size (negsuc n) t = let h : n ≤ 999_999 = leb-true n 999_999 (and_both (leb n 999_999) true t).0 in omega arith

pub position_in_float : (z : ℤ) → is_position z ≡ true → T (in_float binary32 z)
unfolding in_float
position_in_float (pos n) t = le→leb n (2 ^ 24) (let h : n ≤ 1_000_000 = position_size (pos n) t in omega arith)
position_in_float (negsuc n) t = lt→ltb n (2 ^ 24) (let h : suc n ≤ 1_000_000 = position_size (negsuc n) t in omega arith)

-- a position, cast
pub cast_exact : (z : ℤ) → is_position z ≡ true → of_int binary32 z ≡ exact 0 z
unfolding of_int exact
cast_exact (pos n) t = let h : n ≤ 1_000_000 = position_size (pos n) t in round_odd false n 0 (omega arith) (omega arith)
cast_exact (negsuc n) t = let h : suc n ≤ 1_000_000 = position_size (negsuc n) t in round_odd true (suc n) 0 (omega arith) (omega arith)

-- ---- the sum

-- a sum's size is at most 2,000,000, which no rounding changes, with either sign
rounded : (s : Bool) (n : ℕ) → n ≤ 2_000_000 → round binary32 s n 1 ≡ odd 24 s n 0 0
rounded s n h = round_odd s n 0 (omega arith) (omega arith)

-- of opposite signs: the larger size less the smaller, with the larger one's sign; equal sizes give +0
up_down : (a b : ℕ) → a ≤ 1_000_000 → suc b ≤ 1_000_000 → sum binary32 false a true (suc b) 1 ≡ exact 0 (sub_ℕ a (suc b))
unfolding sum exact
up_down a b h l = go (ltb a (suc b)) (ltb→lt a (suc b)) (nltb→le a (suc b))
  where
    go : (t : Bool) → (T t → a < suc b) → (T (not t) → suc b ≤ a)
        → cond t (round binary32 true (suc b - a) 1) (round binary32 false (a - suc b) 1) ≡ exact 0 (cond t (negsuc (suc b - suc a)) (pos (a - suc b)))
    go true y n =
        let k : a < suc b = y tt in
        let e : suc b - a ≡ suc (suc b - suc a) = omega arith in
        rounded true (suc b - a) (omega arith) ∙ ap (λ (x : ℕ). odd 24 true x 0 0) e
    go false y n = rounded false (a - suc b) (omega arith)

down_up : (a b : ℕ) → suc a ≤ 1_000_000 → b ≤ 1_000_000 → sum binary32 true (suc a) false b 1 ≡ exact 0 (sub_ℕ b (suc a))
unfolding sum exact
down_up a b h l = go (ltb (suc a) b) (ltb b (suc a)) (ltb→lt (suc a) b) (nltb→le (suc a) b) (ltb→lt b (suc a)) (nltb→le b (suc a))
  where
    go : (u t : Bool) → (T u → suc a < b) → (T (not u) → b ≤ suc a) → (T t → b < suc a) → (T (not t) → suc a ≤ b)
        → cond u (round binary32 false (b - suc a) 1) (round binary32 (true && t) (suc a - b) 1) ≡ exact 0 (cond t (negsuc (suc a - suc b)) (pos (b - suc a)))
    go true true y n z m = let k : suc a < b = y tt in let j : b < suc a = z tt in absurd (omega arith)
    go true false y n z m = rounded false (b - suc a) (omega arith)
    go false true y n z m =
        let k : b < suc a = z tt in
        let e : suc a - b ≡ suc (suc a - suc b) = omega arith in
        rounded true (suc a - b) (omega arith) ∙ ap (λ (x : ℕ). odd 24 true x 0 0) e
    go false false y n z m =
        let k : b ≤ suc a = n tt in
        let j : suc a ≤ b = m tt in
        let e : suc a - b ≡ b - suc a = omega arith in
        rounded false (suc a - b) (omega arith) ∙ ap (λ (x : ℕ). odd 24 false x 0 0) e

pub sum_exact : (a b : ℤ) → nat_abs a ≤ 1_000_000 → nat_abs b ≤ 1_000_000 → add binary32 (exact 0 a) (exact 0 b) ≡ exact 0 (a +ℤ b)
unfolding sum exact
sum_exact (pos a) (pos b) h l =
    add_whole binary32 (exact 0 (pos a)) (exact 0 (pos b)) false false a b (exact_is 0 (pos a)) (exact_is 0 (pos b)) ∙ rounded false (a + b) (omega arith)
sum_exact (pos a) (negsuc b) h l =
    add_whole binary32 (exact 0 (pos a)) (exact 0 (negsuc b)) false true a (suc b) (exact_is 0 (pos a)) (exact_is 0 (negsuc b)) ∙ up_down a b h l
sum_exact (negsuc a) (pos b) h l =
    add_whole binary32 (exact 0 (negsuc a)) (exact 0 (pos b)) true false (suc a) b (exact_is 0 (negsuc a)) (exact_is 0 (pos b)) ∙ down_up a b h l
sum_exact (negsuc a) (negsuc b) h l =
    let e : suc a + suc b ≡ suc (suc (a + b)) = omega arith in
    add_whole binary32 (exact 0 (negsuc a)) (exact 0 (negsuc b)) true true (suc a) (suc b) (exact_is 0 (negsuc a)) (exact_is 0 (negsuc b))
    ∙ rounded true (suc a + suc b) (omega arith)
    ∙ ap (λ (x : ℕ). odd 24 true x 0 0) e

-- ---- half of it

sub_size : (a b : ℕ) → nat_abs (sub_ℕ a b) ≤ a + b
sub_size a b = go (ltb a b) (ltb→lt a b)
  where
    go : (t : Bool) → (T t → a < b) → nat_abs (cond t (negsuc (b - suc a)) (pos (a - b))) ≤ a + b
    go true y = let k : a < b = y tt in omega arith
    go false y = omega arith

pub sum_size : (a b : ℤ) → nat_abs (a +ℤ b) ≤ nat_abs a + nat_abs b
sum_size (pos a) (pos b) = omega arith
sum_size (pos a) (negsuc b) = sub_size a (suc b)
sum_size (negsuc a) (pos b) = let h : nat_abs (sub_ℕ b (suc a)) ≤ b + suc a = sub_size b (suc a) in omega arith
sum_size (negsuc a) (negsuc b) = omega arith

pub half_exact : (z : ℤ) → nat_abs z ≤ 2_000_000 → mul binary32 (exact 0 z) one_half ≡ exact 1 z
unfolding exact
half_exact (pos n) h = mul_half binary32 (exact 0 (pos n)) false n (exact_is 0 (pos n)) ∙ round_odd false n 1 (omega arith) (omega arith)
half_exact (negsuc n) h = mul_half binary32 (exact 0 (negsuc n)) true (suc n) (exact_is 0 (negsuc n)) ∙ round_odd true (suc n) 1 (omega arith) (omega arith)

-- 0.5, by the pattern that the program has for it
pub half_is : of_bits binary32 0x3f00_0000 ≡ one_half
unfolding of_bits
half_is = refl

-- the f32 sum of two positions, times one half
pub midpoint_exact : (a b : ℤ) → is_position a ≡ true → is_position b ≡ true → mul binary32 (add binary32 (exact 0 a) (exact 0 b)) (of_bits binary32 0x3f00_0000) ≡ exact 1 (a +ℤ b)
midpoint_exact a b s t =
    let h : nat_abs a ≤ 1_000_000 = position_size a s in
    let l : nat_abs b ≤ 1_000_000 = position_size b t in
    ap (λ (x : Float). mul binary32 x (of_bits binary32 0x3f00_0000)) (sum_exact a b h l)
    ∙ ap (mul binary32 (exact 0 (a +ℤ b))) half_is
    ∙ half_exact (a +ℤ b) (omega (arith, sum_size a b))

pub nothing_rounded : NothingRounded
nothing_rounded = record { cast = cast_exact; midpoint = midpoint_exact }
