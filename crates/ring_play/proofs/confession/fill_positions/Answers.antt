-- `ring_play::confession::fill_positions` meets its contract: before receiver i, the unstruck ones below i have their new position, and all others the one they had.
use Rattle.std.proofs.Common.{◌≡◌, length, pos, sym, ap, ◌∙◌, arith, to_z-of_z, rules, w32}
use Rattle.frame_slots.specs.Slots.{planted_in}
use Rattle.ring_play.specs.Inner.Planted.{position_settled}
use Rattle.ring_play.proofs.round.Filling.{filled_passed, filled_set}
use Rattle.ring_play.proofs.confession.Settling.{planted_kept}
use Rattle.ring_play.proofs.confession.fill_positions.Goals as goal
use Rattle.ring_play.proofs.confession.fill_positions.Goals.{then-settles, else-settles}

pub loop-i-preserved : goal.loop-i-preserved
loop-i-preserved c =
    let l = c.loop-i in
    let long : length l.positions ≡ 48 = search rules in
    let b = sym c.settles.ensures in
    let a = c.args in
    elim c.if-settles.branch [
      | then-settles w ↦
          let e = to_z-of_z {w = w32} (record { sfits = w.position_for-position.type_inv }) ∙ w.position_for-position.ensures.position
          ∙ ap (position_settled a.s) (planted_kept a.s a.base a.rows.now l.rows l.invariant.2 (planted_in a.planted.now a.lengths.now) l.i) in
          let k = w.position_for-position.ensures.kept in (
            l.invariant.0,
            rw w.positions-is (filled_set _ _ _ l.positions (pos 0) l.i l.invariant.1 (omega (arith, long)) (b ∙ w.if-settles.true) e),
            rw w.rows-is (record { long = k.long; gives = k.gives ∙ l.invariant.2.gives }),
          )
      | else-settles w ↦ (
        l.invariant.0,
        rw w.positions-is (filled_passed _ _ _ l.i l.invariant.1 (b ∙ w.if-settles.false)),
        rw w.rows-is l.invariant.2,
      )
    ]
