-- `head_c::focus_head_since` meets its contract: the word is read as the seat reads it.
use mathlib.Core.Path.{refl}
use Rattle.head_c.specs.Blocks.{seat_of, head_of}
use Rattle.head_c.proofs.focus_head_since.Goals as goal

pub returns : goal.returns
unfolding seat_of head_of
returns c = refl
