-- Numbers as text. Bytes are ASCII.
use Rattle.std.specs.Prelude.{cond, List, [], ◌∷◌, ◌++◌, ℕ, zero, suc, ◌+◌, ◌/◌, ◌%◌, ltb, ℤ, pos, negsuc}

-- the last k decimal digits of x
unfoldable pub digits : ℕ → ℕ → List ℕ
digits zero x = []
digits (suc k) x = digits k (x / 10) ++ ((48 + x % 10) ∷ [])

-- how many digits x has, up to k + 1
unfoldable pub size : ℕ → ℕ → ℕ
size zero x = 1
size (suc k) x = cond (ltb x 10) 1 (suc (size k (x / 10)))

-- without padding, of a number below 10 ^ 10 (P57)
unfoldable pub decimal : ℕ → List ℕ
decimal x = digits (size 9 x) x

-- with a minus sign if it is below zero (P57)
abbrev pub whole : ℤ → List ℕ
whole (pos x) = decimal x
whole (negsuc x) = 45 ∷ decimal (suc x)

abbrev pub hex_digit : ℕ → ℕ
hex_digit d = cond (ltb d 10) (48 + d) (87 + d)

-- the last k hexadecimal digits of x, in lower case
unfoldable pub hex : ℕ → ℕ → List ℕ
hex zero x = []
hex (suc k) x = hex k (x / 16) ++ (hex_digit (x % 16) ∷ [])

-- the last k digits of x in base b
unfoldable pub spelled : (b k x : ℕ) → List ℕ
spelled b zero x = []
spelled b (suc k) x = spelled b k (x / b) ++ (hex_digit (x % b) ∷ [])

-- parted by single spaces
abbrev pub spaced : List ℕ → List ℕ → List ℕ
spaced s rest = s ++ (32 ∷ rest)
