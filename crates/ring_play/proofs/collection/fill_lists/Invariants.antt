-- `ring_play::collection::fill_lists` meets its contract: before head i, the unstruck heads below i have their list, and all others have what they had.
use Rattle.std.proofs.Common.{◌≡◌, length, not}
use Rattle.marks.specs.Marks.{bit_of}
use Rattle.entries.specs.Tables.{table_of}
use Rattle.ring_play.specs.Memory.{heads, row_in}
use Rattle.frame_slots.specs.Slots.{planted_in}
use Rattle.ring_play.specs.Inner.Collection.{heard_with, Shared}
use Rattle.ring_play.proofs.round.Filling.{Filled}
use Rattle.ring_play.proofs.collection.fill_lists.Given as goal

abbrev pub invariant-loop-i : goal.invariant-loop-i
invariant-loop-i l =
    (length l.lists ≡ 32) × ((S : Shared l.s l.sent)
    → Filled (λ j. not (bit_of l.s.struck j)) (λ j. table_of (heads l.s) (heard_with l.s S.entry (planted_in l.planted l.lengths) j)) (row_in l.initial.marks l.initial.lists) l.i (row_in l.marks l.lists))
