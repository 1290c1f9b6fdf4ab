-- `ring_play::confession::links_of` meets its contract: before head k, the unstruck heads below k are marked, each in one of the two words.
use Rattle.ring_play.proofs.confession.Honest.{MarkedTo}
use Rattle.ring_play.proofs.confession.links_of.Given as goal

abbrev pub invariant-loop-k : goal.invariant-loop-k
invariant-loop-k l = MarkedTo l.s l.k l.confessed l.listed
