-- Sums over the indices 0 .. n - 1. The whole argument counts by one law, `sums_le`: an inequality that holds at each index holds of the sums.
use mathlib.Core.Path.{◌≡◌, refl}
use mathlib.Core.List.{List, [], ◌∷◌}
use mathlib.Core.Bool.{Bool, true, false}
use Prim.Native.Nat.{ℕ, zero, suc, ◌+◌, ◌≤◌, ◌<◌}
use native.Mathlib.Omega.{arith}
use native.Mathlib.Decide.{dec_lt, dec_le}
use native.Mathlib.Nat.{le_refl}
use lib.Dec.{T}
use Rattle.terms.specs.Counting.{Each, sum, bit}

-- ---- a statement for each index

pub each_last : {n : ℕ} {P : ℕ → Type 0} → Each (suc n) P → P n
each_last {n} h = h n (le_refl (suc n))

pub each_less : {n : ℕ} {P : ℕ → Type 0} → Each (suc n) P → Each n P
each_less h j l = h j (omega arith)

pub each_more : {n : ℕ} {P : ℕ → Type 0} → Each n P → P n → Each (suc n) P
each_more {n} {P} h q j l = go (dec_lt j n)
  where
    go : Dec (j < n) → P j
    go (yes k) = h j k
    go (no k) = let e : j ≡ n = omega arith in rw e q

-- ---- sums

-- several functions at one index, and their sums: a side of an inequality
abbrev pub lin : List (ℕ → ℕ) → ℕ → ℕ
lin [] j = 0
lin (g ∷ gs) j = g j + lin gs j

abbrev pub sums : ℕ → List (ℕ → ℕ) → ℕ
sums n [] = 0
sums n (g ∷ gs) = sum n g + sums n gs

sums_zero : (gs : List (ℕ → ℕ)) → sums 0 gs ≡ 0
unfolding sum
sums_zero [] = refl
sums_zero (g ∷ gs) = omega (arith, sums_zero gs)

sums_suc : (n : ℕ) (gs : List (ℕ → ℕ)) → sums (suc n) gs ≡ sums n gs + lin gs n
unfolding sum
sums_suc n [] = omega arith
sums_suc n (g ∷ gs) = omega (arith, sums_suc n gs)

pub sums_le : (n : ℕ) (gs hs : List (ℕ → ℕ)) → Each n (λ j. lin gs j ≤ lin hs j) → sums n gs ≤ sums n hs
sums_le zero gs hs h = omega (arith, sums_zero gs)
sums_le (suc n) gs hs h = omega (arith, sums_suc n gs, sums_suc n hs, sums_le n gs hs (each_less h), each_last h)

pub sum_same : (n : ℕ) (g h : ℕ → ℕ) → Each n (λ j. g j ≡ h j) → sum n g ≡ sum n h
unfolding sum
sum_same zero g h q = refl
sum_same (suc n) g h q = omega (arith, each_last q, sum_same n g h (each_less q))

pub sum_one : (n : ℕ) → sum n (λ j. 1) ≡ n
unfolding sum
sum_one zero = refl
sum_one (suc n) = omega (arith, sum_one n)

pub sum_none : (n : ℕ) → sum n (λ j. 0) ≡ 0
unfolding sum
sum_none zero = refl
sum_none (suc n) = omega (arith, sum_none n)

-- a sum that is not 0 has a part that is not
pub some_of : (n : ℕ) (g : ℕ → ℕ) → 1 ≤ sum n g → (k : ℕ) × (k < n) × (1 ≤ g k)
unfolding sum
some_of zero g h = absurd (omega arith)
some_of (suc n) g h = go (dec_le 1 (g n)) h (some_of n g)
  where
    go : Dec (1 ≤ g n) → 1 ≤ sum n g + g n → (1 ≤ sum n g → (k : ℕ) × (k < n) × (1 ≤ g k)) → (k : ℕ) × (k < suc n) × (1 ≤ g k)
    go (yes l) q r = (n, omega arith, l)
    go (no l) q r = let (k, i, p) = r (omega arith) in (k, omega arith, p)

pub bit_le : (b : Bool) → bit b ≤ 1
bit_le true = omega arith
bit_le false = omega arith

pub bit_yes : (b : Bool) → T b → bit b ≡ 1
bit_yes true t = refl
bit_yes false t = elim t [ ]

pub bit_no : (b : Bool) → (T b → ⊥) → bit b ≡ 0
bit_no true h = absurd (h tt)
bit_no false h = refl
