-- Word after word: after k turns the first k mark words are there.
use mathlib.Core.Path.{refl, sym}
use native.Mathlib.Omega.{arith}
use Rattle.head_c.specs.Blocks.{head_of}
use Rattle.head_c.proofs.Copying.{up_to_long, up_to_at, filled_none, filled_more, filled_all}
use Rattle.head_c.proofs.block.links_in.Goals as goal

pub loop-k-init : goal.loop-k-init
loop-k-init c = filled_none _ _ refl

pub loop-k-preserved : goal.loop-k-preserved
loop-k-preserved c =
    let l = c.loop-k in
    filled_more 0 l.invariant (sym (up_to_at 32 _ l.k 0 (omega arith))) (omega arith) (up_to_long 32 _)

pub returns : goal.returns
unfolding head_of
returns c = rw (filled_all c.loop-k.invariant (omega arith) (up_to_long 32 _))
