-- `ring_play::shared::fill_positions` meets its contract: before receiver i, each unstruck one below i has its new position, and `earlier` was settled from `settled`.
use Rattle.std.specs.Prelude.{Some}
use Rattle.std.proofs.Common.{◌≡◌, length, get_or, pos, sym, ◌∙◌, arith, to_z-of_z, rules, w32, to_z, of_z}
use Rattle.frame_slots.specs.Slots.{planted_in}
use Rattle.ring_play.specs.Inner.Before.{AsBefore}
use Rattle.ring_play.proofs.round.Filling.{filled_passed, filled_set, filled_had}
use Rattle.ring_play.proofs.round.Receivers.{settles_more}
use Rattle.ring_play.proofs.shared.Settling.{told_settled}
use Rattle.ring_play.proofs.shared.Told.{settled_here}
use Rattle.ring_play.proofs.shared.fill_positions.Goals as goal
use Rattle.ring_play.proofs.shared.fill_positions.Goals.{then-settles+in-Some, then-settles+in-None, else-settles}

pub loop-i-preserved : goal.loop-i-preserved
loop-i-preserved c =
    let l = c.loop-i in
    let long : length l.positions ≡ 48 = search rules in
    let a = c.args in
    let plant = planted_in a.planted.now a.lengths.now in
    let b = sym c.settles.ensures in
    elim c.if-settles.branch [
      | then-settles+in-Some w ↦
          let r = w.remember-two.ensures in (
            l.invariant.0,
            rw (w.settled-is, w.earlier-is) l.invariant.1,
            rw (w.two-is, r.0) (omega arith, b ∙ w.if-settles.true),
            rw w.two-is (r.1 a.s _ (settles_more a.s l.i l.two.newer l.invariant.2) (settles_more a.s l.i l.two.older l.invariant.3)),
            λ S A.
                let f : AsBefore a.s plant l.i (Some w.in-Some.m) = rw w.in-Some.is at w.same_of_two.ensures in
                let fits : to_z w32 (of_z w32 (get_or l.positions w.in-Some.m (pos 0))) ≡ get_or l.positions w.in-Some.m (pos 0) = search rules in
                rw w.positions-is
                (filled_set _ _ _ l.positions (pos 0) l.i (l.invariant.4 S A) (omega (arith, long)) (b ∙ w.if-settles.true)
                (fits ∙ filled_had _ _ _ l.i (l.invariant.4 S A) _ f.0 f.1 ∙ told_settled a.s S.given plant l.i _ f.2)),
          )
      | then-settles+in-None w ↦
          let r = w.remember-two-in-None.ensures in
          let p = w.position_counted-position.ensures in
          let fits = to_z-of_z {w = w32} (record { sfits = w.position_counted-position.type_inv }) in (
            l.invariant.0,
            rw (w.settled-is, w.earlier-is) (fits ∙ p.codes),
            rw (w.two-is, r.0) (omega arith, b ∙ w.if-settles.true),
            rw w.two-is (r.1 a.s _ (settles_more a.s l.i l.two.newer l.invariant.2) (settles_more a.s l.i l.two.older l.invariant.3)),
            λ S A. rw w.positions-is
                (filled_set _ _ _ l.positions (pos 0) l.i (l.invariant.4 S A) (omega (arith, long)) (b ∙ w.if-settles.true)
                (fits ∙ p.position ∙ settled_here a.s plant l.i S A w.count_planted-confessed.ensures)),
          )
      | else-settles w ↦ (
        l.invariant.0,
        rw (w.settled-is, w.earlier-is) l.invariant.1,
        rw w.two-is (settles_more a.s l.i l.two.newer l.invariant.2),
        rw w.two-is (settles_more a.s l.i l.two.older l.invariant.3),
        λ S A. rw w.positions-is (filled_passed _ _ _ l.i (l.invariant.4 S A) (b ∙ w.if-settles.false)),
      )
    ]
