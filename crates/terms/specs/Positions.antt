-- Document 01, positions: whole steps with a sign. In ℤ `pos n` is n and `negsuc n` is -(n + 1).
use Rattle.std.specs.Prelude.{Bool, false, ◌&&◌, ℕ, ◌/◌, ◌+◌, ◌%◌, eqb, ℤ, pos, negsuc, neg_ℤ, nat_abs, ◌+ℤ◌, ◌-ℤ◌, ◌≤ℤ◌}
use Rattle.std.specs.Int.Signed.{le_z}

-- from -1,000,000 to 1,000,000
unfoldable pub is_position : ℤ → Bool
is_position v = le_z (negsuc 999_999) v && le_z v (pos 1_000_000)

-- from -b to b
abbrev pub Within : ℕ → ℤ → Type 0
Within b x = (neg_ℤ (pos b) ≤ℤ x) × (x ≤ℤ pos b)

-- x / d, rounded down, towards minus infinity
unfoldable pub floor_div : ℤ → ℕ → ℤ
floor_div (pos n) d = pos (n / d)
floor_div (negsuc n) d = negsuc (n / d)

-- half of z; an odd z is rounded down if r is 0, and up if r is 1 (document 01 has r = 0 throughout; document 02, A7, goes by the phase;
-- D3, D6)
unfoldable pub half : ℕ → ℤ → ℤ
half r z = floor_div (z +ℤ pos r) 2

-- how phase p rounds odd sums: 0, down, in odd phases, and 1, up, in even ones (document 02, A7)
unfoldable pub rounding : ℕ → ℕ
rounding p = (p + 1) % 2

-- how far b lies above a, if it does
unfoldable pub gap : ℤ → ℤ → ℕ
gap a b = nat_abs (b -ℤ a)

-- whether two positions are the same
unfoldable pub eq_z : ℤ → ℤ → Bool
eq_z (pos a) (pos b) = eqb a b
eq_z (pos a) (negsuc b) = false
eq_z (negsuc a) (pos b) = false
eq_z (negsuc a) (negsuc b) = eqb a b
