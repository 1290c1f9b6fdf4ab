-- Counting over heads 0 .. n - 1.
use Rattle.std.specs.Prelude.{Bool, true, false, ℕ, zero, suc, ◌+◌, ◌≤◌, ◌<◌}

-- a statement for each index below n
abbrev pub Each : ℕ → (ℕ → Type 0) → Type 0
Each n P = (j : ℕ) → j < n → P j

-- the sum of g 0, .., g (n - 1)
unfoldable pub sum : ℕ → (ℕ → ℕ) → ℕ
sum zero g = 0
sum (suc n) g = sum n g + g n

-- 1 for true
abbrev pub bit : Bool → ℕ
bit true = 1
bit false = 0

-- at most f of n heads are marked
abbrev pub AtMost : ℕ → ℕ → (ℕ → Bool) → Type 0
AtMost f n s = sum n (λ j. bit (s j)) ≤ f
