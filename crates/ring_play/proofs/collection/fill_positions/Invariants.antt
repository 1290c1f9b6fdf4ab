-- `ring_play::collection::fill_positions` meets its contract: before receiver i, the unstruck ones below i have their new position, and all others the one they had.
use Rattle.std.proofs.Common.{◌≤◌, get_or, pos}
use Rattle.entries.specs.Tables.{table_at, table_of}
use Rattle.ring_play.specs.Memory.{heads, settles}
use Rattle.frame_slots.specs.Slots.{planted_in}
use Rattle.ring_play.specs.Inner.Collection.{heard_with, Shared, position_from}
use Rattle.ring_play.proofs.round.Filling.{Filled}
use Rattle.ring_play.proofs.collection.fill_positions.Given as goal

abbrev pub invariant-loop-i : goal.invariant-loop-i
invariant-loop-i l =
    (l.end ≤ 48) × ((S : Shared l.s l.sent)
    → Filled (settles l.s) (λ j. position_from l.s (table_at (table_of (heads l.s) (heard_with l.s S.entry (planted_in l.planted l.lengths) j))))
    (λ j. get_or l.initial.positions j (pos 0)) l.i (λ j. get_or l.positions j (pos 0)))
