-- `ring_play::confession::links_of` meets its contract: before head k, the unstruck heads below k are marked, each in one of the two words.
use Rattle.std.proofs.Common.{not, sym, ap, ◌∙◌, arith}
use Rattle.ring_play.proofs.confession.Honest.{marked_none, marked_passed, marked_healed, marked_listed}
use Rattle.ring_play.proofs.confession.links_of.Goals as goal
use Rattle.ring_play.proofs.confession.links_of.Goals.{then-not-marked+then-marked, then-not-marked+else-marked, else-not-marked}

pub loop-k-init : goal.loop-k-init
loop-k-init c = marked_none _

pub loop-k-preserved : goal.loop-k-preserved
loop-k-preserved c =
    let l = c.loop-k in
    let b = ap not (sym c.marked.ensures) in
    let h = c.head_count-n.ensures in
    elim c.if-not-marked.branch [
      | then-not-marked+then-marked w ↦
          rw (w.confessed-is, w.listed-is)
          (marked_healed _ l.k l.invariant (omega arith) (b ∙ ap not w.if-not-marked.true) (sym w.marked-then-not-marked.ensures ∙ w.if-marked.true) w.with_mark-confessed.ensures)
      | then-not-marked+else-marked w ↦
          rw (w.confessed-is, w.listed-is)
          (marked_listed _ l.k l.invariant (omega arith) (b ∙ ap not w.if-not-marked.true) (sym w.marked-then-not-marked.ensures ∙ w.if-marked.false) w.with_mark-listed.ensures)
      | else-not-marked w ↦ rw (w.confessed-is, w.listed-is) (marked_passed _ l.k l.invariant (b ∙ ap not w.if-not-marked.false))
    ]
