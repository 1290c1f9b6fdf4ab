-- `ring_play::shared::count_planted` meets its contract: the struck heads that the walk has passed gave what is planted.
use Rattle.frame_slots.specs.Slots.{planted_in}
use Rattle.ring_play.proofs.round.Struck.{Walked}
use Rattle.ring_play.proofs.shared.Counting.{PlantedTo}
use Rattle.ring_play.proofs.shared.count_planted.Given as goal

abbrev pub invariant-loop-k : goal.invariant-loop-k
invariant-loop-k l =
    Walked l.s (λ j. PlantedTo l.s (planted_in l.planted l.lengths) l.i l.codes l.initial.same j l.same l.confessed) l.k-iterator
