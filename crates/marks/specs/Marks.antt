-- Mark words: bit j is for entry j, or for head j.
use Rattle.std.specs.Prelude.{Bool, not, cond, ◌&&◌, ℕ, ◌+◌, ◌/◌, ◌%◌, ◌^◌, eqb, ltb}
use Rattle.terms.specs.Counting.{sum, bit}

-- whether bit j of the marks is set
unfoldable pub bit_of : ℕ → ℕ → Bool
bit_of marks j = eqb (marks / 2 ^ j % 2) 1

-- no mark at n or above
unfoldable pub marks_below : ℕ → ℕ → Bool
marks_below marks n = ltb marks (2 ^ n)

-- the first n bits are set, and no other
unfoldable pub all_marked : ℕ → ℕ → Bool
all_marked marks n = eqb (marks + 1) (2 ^ n)

-- the marks with bit k set, if a mark word has such a bit
unfoldable pub with_mark : ℕ → ℕ → ℕ
with_mark marks k = cond (ltb k 32 && not (bit_of marks k)) (marks + 2 ^ k) marks

-- how many of the first n bits are set
abbrev pub count_below : ℕ → ℕ → ℕ
count_below marks n = sum n (λ k. bit (bit_of marks k))
