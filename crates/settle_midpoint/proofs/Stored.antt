-- A kept range stored as four numbers of 32 bits: the lowest entry, the highest, the trim and the position are read as they are.
use mathlib.Core.Path.{◌≡◌}
use mathlib.Core.List.{[], ◌∷◌}
use Prim.Native.Nat.{ℕ, ◌<◌}
use lib.IntN.{ℤ, pos}
use mir.Syntax.{w32}
use mir.Val.{SFits, to_z, of_z}
use mir.Facts.{to_z-of_z, to_z_pos}

pub stored : {low high position : ℤ} (trim : ℕ) → SFits w32 low → SFits w32 high → trim < 2147483648 → SFits w32 position
    → to_z w32 (of_z w32 low) ∷ to_z w32 (of_z w32 high) ∷ to_z w32 trim ∷ to_z w32 (of_z w32 position) ∷ [] ≡ low ∷ high ∷ pos trim ∷ position ∷ []
stored trim a b c d = rw (to_z-of_z a, to_z-of_z b, to_z_pos w32 c, to_z-of_z d)
