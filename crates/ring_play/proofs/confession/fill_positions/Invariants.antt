-- `ring_play::confession::fill_positions` meets its contract: before receiver i, the unstruck ones below i have their new position, and all others the one they had.
use Rattle.std.proofs.Common.{◌≤◌, get_or, pos}
use Rattle.ring_play.specs.Memory.{settles}
use Rattle.frame_slots.specs.Slots.{planted_in}
use Rattle.settle_trust.specs.Received.{given_by}
use Rattle.ring_play.specs.Inner.Planted.{given_or_planted, position_settled}
use Rattle.ring_play.specs.Inner.Confession.{RowsKept}
use Rattle.ring_play.proofs.round.Filling.{Filled}
use Rattle.ring_play.proofs.confession.fill_positions.Given as goal

abbrev pub invariant-loop-i : goal.invariant-loop-i
invariant-loop-i l =
    (l.end ≤ 48) × Filled (settles l.s) (λ j. position_settled l.s (given_or_planted l.s (given_by l.base l.initial.rows) (planted_in l.planted l.lengths) j))
    (λ j. get_or l.initial.positions j (pos 0)) l.i (λ j. get_or l.positions j (pos 0))
    × RowsKept l.base l.initial.rows l.rows
