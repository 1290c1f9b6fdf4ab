-- Before entry j, the counts below j have one more if the two words are the same, and the others are as they were.
use native.Mathlib.Omega.{arith}
use Rattle.settle_position.proofs.Counting.{added_next}
use Rattle.head_c.proofs.Rows.{same_word}
use Rattle.head_c.proofs.settle.add_same.Goals as goal

pub loop-j-preserved : goal.loop-j-preserved
loop-j-preserved c =
    let l = c.loop-j in
    added_next l.invariant (omega arith) (same_word _ _ (c.type_inv.a l.j).fits (c.type_inv.b l.j).fits)
