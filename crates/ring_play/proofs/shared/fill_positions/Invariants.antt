-- `ring_play::shared::fill_positions` meets its contract: before receiver i, each unstruck one below i has its new position, and `earlier` was settled from `settled`.
use Rattle.std.proofs.Common.{◌≤◌, get_or, pos}
use Rattle.frame_slots.specs.Slots.{planted_in}
use Rattle.ring_play.specs.Memory.{settles}
use Rattle.ring_play.specs.Inner.Before.{SettlesBefore}
use Rattle.ring_play.proofs.round.Filling.{Filled}
use Rattle.ring_play.specs.Inner.Planted.{given_or_planted, position_settled, Alike}
use Rattle.ring_play.specs.Inner.Told.{SharedBy, EarlierOf}
use Rattle.ring_play.proofs.shared.fill_positions.Given as goal

abbrev pub invariant-loop-i : goal.invariant-loop-i
invariant-loop-i l =
    (l.end ≤ 48) × EarlierOf l.s l.earlier l.settled × SettlesBefore l.s l.i l.two.newer × SettlesBefore l.s l.i l.two.older
    × ((S : SharedBy l.s l.need l.codes l.counts) → Alike l.s S.given
    → Filled (settles l.s) (λ j. position_settled l.s (given_or_planted l.s S.given (planted_in l.planted l.lengths) j)) (λ j. get_or l.initial.positions j (pos 0)) l.i (λ j. get_or l.positions j (pos 0)))
