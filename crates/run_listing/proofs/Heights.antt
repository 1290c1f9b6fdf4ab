-- A number of 32 bits by its height above the lowest, 2^31 more than the number, as it is made from the number's word.
use mathlib.Core.Path.{◌≡◌, refl, ap, ◌∙◌}
use Prim.Native.Nat.{ℕ, ◌+◌, ◌-◌, ◌≤◌, ◌<◌}
use native.Mathlib.Omega.{arith}
use lib.IntN.{ℤ, pos, negsuc}
use mir.Syntax.{w32}
use mir.Val.{SFits}
use mir.Facts.{to_z-of_z}
use Rattle.terms.proofs.Machine.{read}
use Rattle.fields.specs.Bytes.{word_of}
use Rattle.run_listing.specs.Heights.{height_of}

-- as the machine holds the number
pub height_read : {v : ℤ} {h : ℕ} → SFits w32 v → h ≡ height_of (read w32 v) → h ≡ height_of v
height_read f e = e ∙ ap height_of (to_z-of_z f)

pub low_word : (v : ℤ) → SFits w32 v → word_of v < 2147483648 → word_of v + 2147483648 ≡ height_of v
unfolding word_of height_of
low_word (pos n) f h = refl
low_word (negsuc n) f h = absurd (omega (arith, f.sfits))

pub high_word : (v : ℤ) → SFits w32 v → 2147483648 ≤ word_of v → word_of v - 2147483648 ≡ height_of v
unfolding word_of height_of
high_word (pos n) f h = absurd (omega (arith, f.sfits))
high_word (negsuc n) f h = omega (arith, f.sfits)
