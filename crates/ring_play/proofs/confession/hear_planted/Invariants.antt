-- `ring_play::confession::hear_planted` meets its contract: the struck heads that the walk has passed gave what is planted, and all others what they had given; a struck
-- head had given nothing.
use Rattle.frame_spec.specs.Said.{said}
use Rattle.settle_trust.specs.Received.{given_by}
use Rattle.head_spec.specs.Record.{given_of}
use Rattle.ring_play.specs.Memory.{heads}
use Rattle.frame_slots.specs.Slots.{planted_in}
use Rattle.ring_play.proofs.round.Struck.{Walked}
use Rattle.ring_play.proofs.confession.Received.{ReceivedTo}
use Rattle.ring_play.proofs.confession.hear_planted.Given as goal

abbrev pub invariant-loop-k : goal.invariant-loop-k
invariant-loop-k l =
    Walked l.s (ReceivedTo l.s (λ j. given_of (said (heads l.s) l.s.phase 1 j (planted_in l.planted l.lengths j l.i))) (given_by l.initial.links l.initial.rows) l.initial.links l.initial.rows l.links l.rows) l.k-iterator
