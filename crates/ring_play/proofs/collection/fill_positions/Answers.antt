-- `ring_play::collection::fill_positions` meets its contract: before receiver i, the unstruck ones below i have their new position, and all others the one they had.
use Rattle.std.proofs.Common.{◌≡◌, length, pos, sym, ◌∙◌, arith, to_z-of_z, rules, w32}
use Rattle.ring_play.proofs.round.Filling.{filled_passed, filled_set}
use Rattle.ring_play.proofs.collection.fill_positions.Goals as goal
use Rattle.ring_play.proofs.collection.fill_positions.Goals.{then-settles, else-settles}

pub loop-i-preserved : goal.loop-i-preserved
loop-i-preserved c =
    let l = c.loop-i in
    let long : length l.positions ≡ 48 = search rules in
    let b = sym c.settles.ensures in
    elim c.if-settles.branch [
      | then-settles w ↦ (
        l.invariant.0,
        λ S. rw w.positions-is
            (filled_set _ _ _ l.positions (pos 0) l.i (l.invariant.1 S) (omega (arith, long)) (b ∙ w.if-settles.true)
            (to_z-of_z {w = w32} (record { sfits = w.position_for-position.type_inv }) ∙ w.position_for-position.ensures S)),
      )
      | else-settles w ↦ (
        l.invariant.0,
        λ S. rw w.positions-is (filled_passed _ _ _ l.i (l.invariant.1 S) (b ∙ w.if-settles.false)),
      )
    ]
