-- `run_record::refuse` meets its contract: all but the fault is as it was.
use native.Mathlib.Omega.{arith}
use Rattle.run_record.proofs.Records.{stopped_next}
use Rattle.run_record.proofs.refuse.Goals as goal

pub returns : goal.returns
returns c = record { next = λ F M T H. stopped_next T H (rw c.number.ensures at c.stop.ensures) c.empty.ensures; len_bound = omega (arith, c.empty.ensures) }
