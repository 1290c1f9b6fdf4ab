-- `ring_play::codes::vote_all` meets its contract: before link k, the lists of the links below k have voted.
use Rattle.std.proofs.Common.{◌≤◌, get_or, pos}
use Rattle.terms.specs.Counting.{Each}
use Rattle.ring_play.specs.Inner.Votes.{CodeLeads}
use Rattle.ring_play.proofs.codes.Lists.{counted}
use Rattle.ring_play.proofs.codes.vote_all.Given as goal

abbrev pub invariant-loop-k : goal.invariant-loop-k
invariant-loop-k l =
    (l.count ≤ l.k) × Each l.n (λ j. CodeLeads (counted l.links l.lists j l.k) l.count (get_or l.codes j (pos 0)) (get_or l.leads j 0))
