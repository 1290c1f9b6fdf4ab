-- `ring_play::collection::entries_sent` meets its contract: before head k the marks and the numbers are those of the heads below k.
use Rattle.std.proofs.Common.{◌≡◌, ◌<◌, sym, refl, ap, ◌∙◌, arith, to_z-of_z, w32}
use Rattle.entries.specs.Entries.{zeros}
use Rattle.entries.specs.Tables.{mark, value_of, marks_of, values_of}
use Rattle.entries.proofs.Tables.{marks_next, marks_fit, numbers_next}
use Rattle.ring_play.specs.Inner.Collection.{sent_by}
use Rattle.ring_play.proofs.collection.entries_sent.Goals as goal
use Rattle.ring_play.proofs.collection.entries_sent.Goals.{then-marked, else-marked}

pub loop-k-init : goal.loop-k-init
unfolding marks_of values_of zeros
loop-k-init c = (refl, refl)

pub overflow_add-marks : goal.overflow_add-marks
unfolding sent_by
overflow_add-marks c =
    let l = c.loop-k in
    let a = c.args in
    let m = sym c.marked.ensures in
    let e : c.if-marked.e ≡ sent_by a.s a.positions.now l.k =
    elim c.if-marked.branch [
      | then-marked w ↦ rw (m ∙ w.if-marked.true) w.e-is
      | else-marked w ↦ rw (m ∙ w.if-marked.false) (w.e-is ∙ w.own_entry-e.ensures)
    ] in
    record { fits = marks_fit _ l.k (omega (arith, c.head_count-n.ensures)) l.invariant.0 (c.mark_of.ensures ∙ ap mark e) }

pub loop-k-preserved : goal.loop-k-preserved
unfolding sent_by
loop-k-preserved c =
    let l = c.loop-k in
    let a = c.args in
    let m = sym c.marked.ensures in
    let e : c.if-marked.e ≡ sent_by a.s a.positions.now l.k =
    elim c.if-marked.branch [
      | then-marked w ↦ rw (m ∙ w.if-marked.true) w.e-is
      | else-marked w ↦ rw (m ∙ w.if-marked.false) (w.e-is ∙ w.own_entry-e.ensures)
    ] in
    let below : l.k < 32 = omega (arith, c.head_count-n.ensures) in (
      marks_next _ l.k below l.invariant.0 (c.mark_of.ensures ∙ ap mark e),
      numbers_next _ l.k l.invariant.1 (to_z-of_z {w = w32} (record { sfits = c.value_of.type_inv }) ∙ c.value_of.ensures ∙ ap value_of e),
    )
