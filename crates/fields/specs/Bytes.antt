-- Fields of two and four bytes, the lowest byte first; a byte past the end of a slice counts as 0.
use Rattle.std.specs.Prelude.{Bool, true, false, cond, List, [], ◌∷◌, ◌++◌, ℕ, ◌+◌, ◌-◌, ◌*◌, ◌/◌, ◌%◌, ltb, leb, length, get_or, set, take, drop, ℤ, pos, negsuc}

-- no bytes
abbrev pub is_empty : List ℕ → Bool
is_empty [] = true
is_empty (x ∷ s) = false

-- two bytes from place i on (D1)
abbrev pub at2 : List ℕ → ℕ → ℕ
at2 s i = get_or s i 0 + 256 * get_or s (i + 1) 0

-- four bytes
abbrev pub at4 : List ℕ → ℕ → ℕ
at4 s i = get_or s i 0 + 256 * get_or s (i + 1) 0 + 65536 * get_or s (i + 2) 0 + 16777216 * get_or s (i + 3) 0

-- a word of four bytes as a number with a sign (two's complement): from 2^31 up it is 2^32 less
unfoldable pub signed_of : ℕ → ℤ
signed_of x = cond (ltb x 2147483648) (pos x) (negsuc (4294967295 - x))

-- four bytes with a sign
abbrev pub signed_at : List ℕ → ℕ → ℤ
signed_at s i = signed_of (at4 s i)

-- the word of a number with a sign
unfoldable pub word_of : ℤ → ℕ
word_of (pos n) = n
word_of (negsuc n) = 4294967295 - n

-- written before other bytes
abbrev pub put2 : ℕ → List ℕ → List ℕ
put2 x rest = x % 256 ∷ x / 256 % 256 ∷ rest

abbrev pub put4 : ℕ → List ℕ → List ℕ
put4 x rest = x % 256 ∷ x / 256 % 256 ∷ x / 65536 % 256 ∷ x / 16777216 % 256 ∷ rest

-- written over a slice from place i on; past its end nothing is written
unfoldable pub over : List ℕ → ℕ → List ℕ → List ℕ
over [] i s = s
over (b ∷ bs) i s = over bs (i + 1) (set s i b)

-- bytes copied over a slice from place i on, if they fit there
unfoldable pub copied : List ℕ → ℕ → List ℕ → List ℕ
copied s i b = cond (leb (i + length b) (length s)) (take i s ++ b ++ drop (i + length b) s) s
