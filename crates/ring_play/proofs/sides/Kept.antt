-- What is kept of the entries E, which are those that all hear, H, and those that are planted, T, where H has none. What is kept is told by counts alone: the
-- lowest kept is the only one with more than f positions no higher and all but f no lower, and so at the other end (`kept_only`). A position kept of H has these
-- counts in E, if each planted one is no higher than the lowest of H, or no lower than the highest.
use Rattle.std.specs.Prelude.{None, Some}
use Rattle.std.proofs.Common.{◌≡◌, ℕ, ◌+◌, ◌-◌, ◌*◌, ◌<◌, ◌≤◌, Bool, true, false, T, List, [], ◌∷◌, length, get_or, ℤ, pos, ◌+ℤ◌, ◌≤ℤ◌, ◌<ℤ◌, refl, arith, le-leb}
use lib.Signed.{le_z, le_z_yes}
use Rattle.terms.specs.Positions.{half}
use Rattle.terms.specs.Entry.{Entry}
use Rattle.terms.proofs.Whole.{arithZ, not_le, dec_le_z}
use Rattle.terms.specs.Counting.{Each, sum, bit}
use Rattle.convergence.specs.Settling.{is_null, nulls, ordered, low_kept, high_kept, middle, enough, one_round_rule}
use Rattle.terms.proofs.Sums.{bit_le, bit_yes, sum_one, sums_le}
use Rattle.convergence.proofs.Order.{passes, gt_fails, KeptRange, kept_counts, length_ordered, in_order, in_order_at}
use Rattle.settle_midpoint.specs.Answers.{settling}
use Rattle.ring_play.specs.declared.sides.Counts.{Counts}
use Rattle.ring_play.specs.Memory.{position_of}
use Rattle.ring_play.specs.Inner.Sides.{tested, SidesCounted, SidesDecide}

-- ---- counts tell what is kept

-- a position is not both no higher than p and no lower than q, if q is higher
apart_at : (p q : ℤ) → p <ℤ q → (e : Entry) → passes (λ u. le_z u p) e + passes (λ u. le_z q u) e + is_null e ≤ 1
apart_at p q h None = omega arith
apart_at p q h (Some u) = go (le_z u p) (λ t. le_z_yes {a = u} {b = p} t)
  where
    go : (b : Bool) → (T b → u ≤ℤ p) → bit b + bit (le_z q u) + 0 ≤ 1
    go true w = omega (arith, gt_fails {a = q} {b = u} (let k = w tt in omega arithZ))
    go false w = omega (arith, bit_le (le_z q u))

module _ (n : ℕ) (E : ℕ → Entry) where
  -- so many no higher than p, and so many no lower than q, that one is both
  meets : (p q : ℤ) {a b : ℕ} → a ≤ sum n (λ j. passes (λ u. le_z u p) (E j)) → b ≤ sum n (λ j. passes (λ u. le_z q u) (E j)) → n < a + b + nulls n E → q ≤ℤ p
  unfolding nulls
  meets p q h k l = go (dec_le_z q p)
    where
      go : Dec (q ≤ℤ p) → q ≤ℤ p
      go (yes w) = w
      go (no w) =
          let one : ℕ → ℕ = λ j. 1 in
          let g : ℕ → ℕ = λ j. passes (λ u. le_z u p) (E j) in
          let g' : ℕ → ℕ = λ j. passes (λ u. le_z q u) (E j) in
          let ν : ℕ → ℕ = λ j. is_null (E j) in
          absurd (omega (arith, sum_one n, sums_le n (g ∷ g' ∷ ν ∷ []) (one ∷ []) (λ j i. omega (arith, apart_at p q (not_le w) (E j)))))

  -- x and y are kept, with t dropped from each end
  pub kept_only : (t : ℕ) (x y : ℤ) → 2 * t + nulls n E < n
      → t + 1 ≤ sum n (λ j. passes (λ u. le_z u x) (E j)) → n - t - nulls n E ≤ sum n (λ j. passes (λ u. le_z x u) (E j))
      → n - t - nulls n E ≤ sum n (λ j. passes (λ u. le_z u y) (E j)) → t + 1 ≤ sum n (λ j. passes (λ u. le_z y u) (E j))
      → (low_kept t (ordered n E) ≡ x) × (high_kept t (ordered n E) ≡ y)
  kept_only t x y some a b c d =
      let K = kept_counts n t E some in
      let low = low_kept t (ordered n E) in
      let high = high_kept t (ordered n E) in
      let from_low : n - t - nulls n E ≤ sum n (λ j. passes (λ u. le_z low u) (E j)) = omega (arith, K.from_low) in
      let upto_high : n - t - nulls n E ≤ sum n (λ j. passes (λ u. le_z u high) (E j)) = omega (arith, K.upto_high) in
      let p : x ≤ℤ low = meets low x K.upto_low b (omega arith) in
      let q : low ≤ℤ x = meets x low a from_low (omega arith) in
      let v : y ≤ℤ high = meets high y upto_high d (omega arith) in
      let w : high ≤ℤ y = meets y high c K.from_high (omega arith) in
      (omega arithZ, omega arithZ)

-- ---- positions planted on the two sides

tested_passes : (q : ℤ → Bool) (e : Entry) → tested q e ≡ passes q e
tested_passes q None = refl
tested_passes q (Some u) = refl

position_or_null : (e : Entry) → passes (λ u. true) e + is_null e ≡ 1
position_or_null None = refl
position_or_null (Some u) = refl

-- what is no higher than x is no higher than y
upto_more : (x y : ℤ) → x ≤ℤ y → (e : Entry) → tested (λ u. le_z u x) e ≤ passes (λ u. le_z u y) e
upto_more x y h None = omega arith
upto_more x y h (Some u) = go (le_z u x) (λ t. le_z_yes {a = u} {b = x} t)
  where
    go : (b : Bool) → (T b → u ≤ℤ x) → bit b ≤ bit (le_z u y)
    go true w = let k : u ≤ℤ y = (let k = w tt in omega arithZ) in omega (arith, bit_yes (le_z u y) k.le)
    go false w = omega arith

from_more : (x y : ℤ) → x ≤ℤ y → (e : Entry) → tested (λ u. le_z y u) e ≤ passes (λ u. le_z x u) e
from_more x y h None = omega arith
from_more x y h (Some u) = go (le_z y u) (λ t. le_z_yes {a = y} {b = u} t)
  where
    go : (b : Bool) → (T b → y ≤ℤ u) → bit b ≤ bit (le_z x u)
    go true w = let k : x ≤ℤ u = (let k = w tt in omega arithZ) in omega (arith, bit_yes (le_z x u) k.le)
    go false w = omega arith

-- l: the positions of H in order
module _ (n f : ℕ) (H P E : ℕ → Entry) (split : (q : ℤ → Bool) → Each n (λ j. passes q (E j) ≡ passes q (H j) + passes q (P j))) where
  abbrev l : List ℤ
  l = ordered n H

  module _ {c : Counts} (C : SidesCounted n P (get_or l 0 (pos 0)) (get_or l (length l - 1) (pos 0)) c) (D : SidesDecide n f (length l) c) where
    both : (q : ℤ → Bool) → sum n (λ j. passes q (H j)) + sum n (λ j. passes q (P j)) ≤ sum n (λ j. passes q (E j))
    both q =
        let h : ℕ → ℕ = λ j. passes q (H j) in
        let p : ℕ → ℕ = λ j. passes q (P j) in
        let e : ℕ → ℕ = λ j. passes q (E j) in
        omega (arith, sums_le n (h ∷ p ∷ []) (e ∷ []) (λ j i. omega (arith, split q j i)))

    nulls_are : nulls n H ≡ nulls n E + c.all
    unfolding nulls
    nulls_are =
        let h : ℕ → ℕ = λ j. is_null (H j) in
        let e : ℕ → ℕ = λ j. is_null (E j) in
        let p : ℕ → ℕ = λ j. tested (λ u. true) (P j) in
        let at : (j : ℕ) → j < n → is_null (H j) ≡ is_null (E j) + tested (λ u. true) (P j) =
        λ j i. omega (arith, split (λ u. true) j i, position_or_null (H j), position_or_null (E j), tested_passes (λ u. true) (P j)) in
        omega (
          arith,
          C.all,
          sums_le n (h ∷ []) (e ∷ p ∷ []) (λ j i. omega (arith, at j i)),
          sums_le n (e ∷ p ∷ []) (h ∷ []) (λ j i. omega (arith, at j i)),
        )

    -- a position among those that all hear: all planted on the low side are no higher, and all on the high side no lower
    module _ (k : ℕ) (below : k < length l) where
      abbrev x : ℤ
      x = get_or l k (pos 0)

      low_planted : c.low ≤ sum n (λ j. passes (λ u. le_z u x) (P j))
      low_planted =
          let a : ℕ → ℕ = λ j. tested (λ u. le_z u (get_or l 0 (pos 0))) (P j) in
          let b : ℕ → ℕ = λ j. passes (λ u. le_z u x) (P j) in
          omega (arith, C.low, sums_le n (a ∷ []) (b ∷ []) (λ j i. omega (arith, upto_more (get_or l 0 (pos 0)) x (in_order_at l 0 k (in_order n H) (omega arith) below) (P j))))

      high_planted : c.high ≤ sum n (λ j. passes (λ u. le_z x u) (P j))
      high_planted =
          let a : ℕ → ℕ = λ j. tested (λ u. le_z (get_or l (length l - 1) (pos 0)) u) (P j) in
          let b : ℕ → ℕ = λ j. passes (λ u. le_z x u) (P j) in
          omega (arith, C.high, sums_le n (a ∷ []) (b ∷ []) (λ j i. omega (arith, from_more x (get_or l (length l - 1) (pos 0)) (in_order_at l k (length l - 1) (in_order n H) (omega arith) (omega arith)) (P j))))

    low_is : low_kept (f - c.low) l ≡ get_or l (f - c.low) (pos 0)
    unfolding low_kept
    low_is = refl

    high_is : high_kept (f - c.high) l ≡ get_or l (length l - 1 - (f - c.high)) (pos 0)
    unfolding high_kept
    high_is = refl

    kept_inside : (low_kept f (ordered n E) ≡ get_or l (f - c.low) (pos 0)) × (high_kept f (ordered n E) ≡ get_or l (length l - 1 - (f - c.high)) (pos 0))
    kept_inside =
        let z = nulls_are in
        let e = length_ordered n H in
        let s = D.some in
        let o = D.outside in
        let x = get_or l (f - c.low) (pos 0) in
        let y = get_or l (length l - 1 - (f - c.high)) (pos 0) in
        let K : KeptRange n (f - c.low) H x (high_kept (f - c.low) l) = rw low_is at (kept_counts n (f - c.low) H (omega arith)) in
        let M : KeptRange n (f - c.high) H (low_kept (f - c.high) l) y = rw high_is at (kept_counts n (f - c.high) H (omega arith)) in
        let in-x : f - c.low < length l = omega arith in
        let in-y : length l - 1 - (f - c.high) < length l = omega arith in
        let a : f + 1 ≤ sum n (λ j. passes (λ u. le_z u x) (E j)) = omega (arith, K.upto_low, low_planted _ in-x, both (λ u. le_z u x), D.few_low) in
        let b : n - f - nulls n E ≤ sum n (λ j. passes (λ u. le_z x u) (E j)) = omega (arith, K.from_low, high_planted _ in-x, both (λ u. le_z x u), D.few_low) in
        let g : n - f - nulls n E ≤ sum n (λ j. passes (λ u. le_z u y) (E j)) = omega (arith, M.upto_high, low_planted _ in-y, both (λ u. le_z u y), D.few_high) in
        let d : f + 1 ≤ sum n (λ j. passes (λ u. le_z y u) (E j)) = omega (arith, M.from_high, high_planted _ in-y, both (λ u. le_z y u), D.few_high) in
        kept_only n E f x y (omega arith) a b g d

    pub settled_inside : (r : ℕ)
        → half r (get_or l (f - c.low) (pos 0) +ℤ get_or l (length l - 1 - (f - c.high)) (pos 0)) ≡ position_of (settling r n (one_round_rule f) E)
    unfolding settling enough middle
    settled_inside r =
        let few : nulls n E ≤ 2 * f = omega (arith, nulls_are, length_ordered n H, D.enough) in
        rw (le-leb (nulls n E) (2 * f) few, kept_inside.0, kept_inside.1) refl
