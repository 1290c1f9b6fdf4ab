-- `run_state::cleared` meets its contract: before place j those of the places below j that are marked begin anew.
use Rattle.std.proofs.Common.{refl, sym, ◌∙◌, arith, add-one}
use Rattle.std.proofs.lemmas.List.{set-get_or}
use Rattle.run_state.specs.Counts.{cleared}
use Rattle.run_state.proofs.Counts.{cleared_rest}
use Rattle.run_state.proofs.cleared.Goals.{then-marked_wide, else-marked_wide}
use Rattle.run_state.proofs.cleared.Goals as goal

pub loop-j-init : goal.loop-j-init
unfolding cleared
loop-j-init c = refl

pub returns-then-marks-j-eq0 : goal.returns-then-marks-j-eq0
returns-then-marks-j-eq0 c =
    let l = c.loop-j in
    set-get_or l.c-items l.j 0 ∙ l.invariant ∙ sym (cleared_rest l.j c.args.marks c.args.since c.if-marks-j-eq0.true 48 (omega arith))

pub loop-j-preserved : goal.loop-j-preserved
unfolding cleared
loop-j-preserved c =
    let l = c.loop-j in
    let marked = c.marked_wide.ensures in
    elim c.if-marked_wide.branch [
      | then-marked_wide w ↦ w.c-items-is ∙ rw (add-one l.j, ← marked, w.if-marked_wide.true, l.invariant)
      | else-marked_wide w ↦ w.c-items-is ∙ set-get_or l.c-items l.j 0 ∙ rw (add-one l.j, ← marked, w.if-marked_wide.false, l.invariant)
    ]
