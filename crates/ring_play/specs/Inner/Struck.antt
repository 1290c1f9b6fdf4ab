-- The struck heads, one after another.
use Rattle.std.specs.Prelude.{◌≡◌, ℕ, ◌<◌, ◌≤◌, true, false}
use Rattle.marks.specs.Marks.{bit_of}
use Rattle.ring_play.specs.declared.Stage.{Stage}
use Rattle.ring_play.specs.Memory.{heads}

-- r is the first struck head at k or above, or there is none and r is how many heads are played
pub record NextStruck (s : Stage) (k r : ℕ) : Type 0 where
  pub from : k ≤ r
  pub to : r ≤ heads s
  pub passed : (j : ℕ) → k ≤ j → j < r → bit_of s.struck j ≡ false
  pub found : r < heads s → bit_of s.struck r ≡ true
