-- `run_listing::extremes_of` meets its contract: before receiver j the two entries are the lowest and the highest of those below j, and past the last turn there
-- is no receiver.
use Rattle.run_listing.specs.Held.{end_in}
use Rattle.run_listing.specs.Heights.{LowestHighest}
use Rattle.run_listing.proofs.extremes_of.Given as goal

abbrev pub invariant-loop-j : goal.invariant-loop-j
invariant-loop-j l = LowestHighest l.j (end_in l.n l.m l.struck l.positions) l.low l.high
