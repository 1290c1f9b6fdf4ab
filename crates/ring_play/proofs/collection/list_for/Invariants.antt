-- `ring_play::collection::list_for` meets its contract: what is planted by the struck heads that the walk has passed is in the list. A turn adds the mark and stores the
-- number of one entry.
use Rattle.frame_slots.specs.Slots.{planted_in}
use Rattle.ring_play.proofs.round.Struck.{Walked}
use Rattle.ring_play.proofs.collection.Lists.{ListTo}
use Rattle.ring_play.proofs.collection.list_for.Given as goal

abbrev pub invariant-loop-k : goal.invariant-loop-k
invariant-loop-k l =
    Walked l.s (ListTo l.s (planted_in l.planted l.lengths) l.i (record { marks = l.initial.marks; entries = l.initial.entries }) l.marks l.entries) l.k-iterator
