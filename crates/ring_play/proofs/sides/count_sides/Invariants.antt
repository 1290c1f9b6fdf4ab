-- `ring_play::sides::count_sides` meets its contract: what is planted by the struck heads that the walk has passed is counted.
use Rattle.frame_slots.specs.Slots.{planted_in}
use Rattle.ring_play.specs.Inner.Sides.{planted_entry, SidesCounted}
use Rattle.ring_play.proofs.round.Struck.{Walked}
use Rattle.ring_play.proofs.sides.count_sides.Given as goal

abbrev pub invariant-loop-k : goal.invariant-loop-k
invariant-loop-k l =
    Walked l.s (λ j. SidesCounted j (planted_entry l.s (planted_in l.planted l.lengths) l.i) l.lowest l.highest l.c) l.k-iterator
