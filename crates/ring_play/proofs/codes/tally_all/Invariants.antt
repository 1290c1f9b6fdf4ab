-- `ring_play::codes::tally_all` meets its contract: before link k, the counts are those of the lists of the links below k.
use Rattle.std.proofs.Common.{◌≡◌, get_or, pos}
use Rattle.terms.specs.Counting.{Each}
use Rattle.ring_play.proofs.codes.Lists.{counted}
use Rattle.ring_play.proofs.codes.tally_all.Given as goal

abbrev pub invariant-loop-k : goal.invariant-loop-k
invariant-loop-k l =
    Each l.n (λ j. get_or l.same j 0 ≡ counted l.links l.lists j l.k (get_or l.codes j (pos 0)))
