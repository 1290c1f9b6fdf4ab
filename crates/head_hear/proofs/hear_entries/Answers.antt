-- Frame after frame, each heard as it is heard alone.
use native.Mathlib.Omega.{arith}
use Rattle.head_spec.proofs.Batches.{nothing_left}
use Rattle.head_spec.proofs.BatchLoop.{ends, fits, goes_on}
use Rattle.head_hear.proofs.hear_entries.Goals as goal

pub overflow_sub-entry_size : goal.overflow_sub-entry_size
overflow_sub-entry_size c = omega (arith, fits c.loop-rest.invariant c.in-len1-up.len_at_least c.entry_size.ensures)

pub bounds-answers-i : goal.bounds-answers-i
bounds-answers-i c = omega (arith, fits c.loop-rest.invariant c.in-len1-up.len_at_least c.entry_size.ensures)

pub loop-rest-preserved : goal.loop-rest-preserved
loop-rest-preserved c =
    goes_on c.loop-rest.invariant c.in-len1-up.len_at_least c.entry_size.ensures c.split_at.ensures.front c.split_at.ensures.back c.hear-heard.ensures

pub returns : goal.returns
returns c =
    let r = ends c.loop-rest.invariant (nothing_left _ (omega arith)) in record { head = r.0; answers = r.1 }
