-- Word after word: after k turns the first k mark words are there.
use Prim.Native.Nat.{◌+◌}
use lib.ListN.{get_or}
use Rattle.head_c.specs.Blocks.{up_to}
use Rattle.head_c.proofs.Copying.{Filled}
use Rattle.head_c.proofs.block.links_in.Given as goal

abbrev pub invariant-loop-k : goal.invariant-loop-k
invariant-loop-k l = Filled 32 (up_to 32 (λ i. get_or l.h (60 + i) 0)) l.k l.marks
