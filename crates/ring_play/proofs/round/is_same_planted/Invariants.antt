-- `ring_play::round::is_same_planted` meets its contract: the struck heads that the walk has passed have the same planted to both.
use Rattle.frame_slots.specs.Slots.{planted_in}
use Rattle.ring_play.proofs.round.Struck.{SameTo, Walked}
use Rattle.ring_play.proofs.round.is_same_planted.Given as goal

abbrev pub invariant-loop-k : goal.invariant-loop-k
invariant-loop-k l = Walked l.fn.s (SameTo l.fn.s (planted_in l.planted l.lengths) l.i l.m) l.k-iterator
