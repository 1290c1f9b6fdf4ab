-- `ring_play::round::fill_same` meets its contract: before receiver i, the unstruck ones below i have the position, and all others the one they had.
use Rattle.std.proofs.Common.{◌≤◌, get_or, pos}
use Rattle.ring_play.specs.Memory.{settles}
use Rattle.ring_play.proofs.round.Filling.{Filled}
use Rattle.ring_play.proofs.round.fill_same.Given as goal

abbrev pub invariant-loop-i : goal.invariant-loop-i
invariant-loop-i l =
    (l.end ≤ 48) × Filled (settles l.s) (λ j. l.position) (λ j. get_or l.initial.positions j (pos 0)) l.i (λ j. get_or l.positions j (pos 0))
