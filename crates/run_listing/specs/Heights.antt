-- The lowest and the highest as they are found, the first position that is held, and how far a number lies above the lowest of 32 bits.
use Rattle.std.specs.Prelude.{◌≡◌, Bool, true, false, ℕ, zero, suc, ◌+◌, ◌-◌, ℤ, pos, negsuc, None}
use Rattle.terms.specs.Entry.{Entry}
use Rattle.convergence.specs.Phases.{End, sound_at, lesser, greater, lowest, highest}
use Rattle.ring_spec.specs.Agreed.{first_held}

-- how far a number of 32 bits lies above the lowest
unfoldable pub height_of : ℤ → ℕ
height_of (pos n) = n + 2147483648
height_of (negsuc n) = 2147483647 - n

-- of two positions, the higher one if a flag is set, else the lower
abbrev pub outward : Bool → ℤ → ℤ → ℤ
outward true = greater
outward false = lesser

-- the lowest and the highest position of the first n receivers
pub record LowestHighest (n : ℕ) (e : End) (low high : Entry) : Type 0 where
  pub is_low : low ≡ lowest n e
  pub is_high : high ≡ highest n e

-- the position of the first of n receivers that is sound; null if none is
unfoldable pub first_sound : ℕ → End → Entry
first_sound zero e = None
first_sound (suc n) e = first_held (first_sound n e) (sound_at e n)
