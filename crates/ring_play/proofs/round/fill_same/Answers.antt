-- `ring_play::round::fill_same` meets its contract: before receiver i, the unstruck ones below i have the position, and all others the one they had.
use Rattle.std.proofs.Common.{◌≡◌, length, pos, sym, refl, ◌∙◌, arith, rules}
use Rattle.ring_play.proofs.round.Filling.{filled_passed, filled_set}
use Rattle.ring_play.proofs.round.fill_same.Goals as goal
use Rattle.ring_play.proofs.round.fill_same.Goals.{then-settles, else-settles}

pub loop-i-preserved : goal.loop-i-preserved
loop-i-preserved c =
    let l = c.loop-i in
    let long : length l.positions ≡ 48 = search rules in
    let b = sym c.settles.ensures in
    elim c.if-settles.branch [
      | then-settles w ↦ (
        l.invariant.0,
        rw w.positions-is (filled_set _ _ _ l.positions (pos 0) l.i l.invariant.1 (omega (arith, long)) (b ∙ w.if-settles.true) refl),
      )
      | else-settles w ↦ (
        l.invariant.0,
        rw w.positions-is (filled_passed _ _ _ l.i l.invariant.1 (b ∙ w.if-settles.false)),
      )
    ]
