-- Whole numbers and halves as floats, with no rounding in the definition. A `Float` is `fin s m e`, the number m * 2 ^ e, negative where s
-- is true (lib.Ieee).
use Rattle.std.specs.Prelude.{true, false, ℕ, suc, ℤ, pos, negsuc, Float}
use Rattle.std.specs.Float.Ieee.{odd}
use Rattle.std.specs.Float.Ieee.Exact.{HasValue}

-- z / 2 ^ k: `odd` writes it as an odd number times a power of two. Zero is +0.
unfoldable pub exact : ℕ → ℤ → Float
unfolding odd
exact k (pos n) = odd 24 false n 0 k
exact k (negsuc n) = odd 24 true (suc n) 0 k

-- x is finite and is the number z / d, as m * 2 ^ e * d = z says; it has z's sign, and zero is +0
abbrev pub Is : Float → ℤ → ℕ → Type 0
Is x (pos n) d = HasValue x false n d
Is x (negsuc n) d = HasValue x true (suc n) d
