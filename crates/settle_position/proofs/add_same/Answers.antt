-- `settle_position::add_same` meets its contract: before entry j, the counts below j have one more if the two numbers are the same, and the others are as they were.
use native.Mathlib.Omega.{arith}
use lib.IntN.{pos}
use lib.ListN.{get_or}
use Rattle.settle_trust.proofs.Cells.{same_bits}
use Rattle.settle_position.proofs.Counting.{added_next}
use Rattle.settle_position.proofs.add_same.Goals as goal

pub loop-j-preserved : goal.loop-j-preserved
loop-j-preserved c = added_next c.loop-j.invariant (omega arith) (same_bits {x = get_or c.args.a.now c.loop-j.j (pos 0)} {y = get_or c.args.b.now c.loop-j.j (pos 0)} (record { sfits = omega arith }) (record { sfits = omega arith }))
