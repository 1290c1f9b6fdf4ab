-- What reading a block gives, element by element.
use mathlib.Core.Path.{◌≡◌}
use mathlib.Core.List.{List}
use Prim.Native.Nat.{ℕ, ◌+◌, ◌<◌}
use lib.ListN.{length, get_or}
use lib.IntN.{pos}
use Rattle.fields.specs.Bytes.{signed_of}
use Rattle.head_c.specs.Blocks.{numbers_at}
use Rattle.head_c.proofs.Copying.{up_to_long, up_to_at}

module _ (w : List ℕ) (i : ℕ) where
  pub numbers_long : length (numbers_at w i) ≡ 32
  unfolding numbers_at
  numbers_long = up_to_long 32 _

  pub number_at : (j : ℕ) → j < 32 → get_or (numbers_at w i) j (pos 0) ≡ signed_of (get_or w (i + j) 0)
  unfolding numbers_at
  number_at j l = up_to_at 32 _ j (pos 0) l
