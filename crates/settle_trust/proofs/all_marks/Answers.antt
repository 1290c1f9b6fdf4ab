-- `settle_trust::all_marks` meets its contract: after k turns the words are those of the first k links. A turn stores one.
use mathlib.Core.Path.{refl, ap₂, ◌∙◌}
use mathlib.Core.Bool.{Bool}
use mathlib.Core.List.{List}
use Prim.Native.Nat.{ℕ}
use native.Mathlib.Numerals.{add-one}
use lib.ListN.{get_or, set}
use Rattle.settle_trust.specs.Cells.{marks_given, marks_to}
use Rattle.settle_trust.proofs.all_marks.Goals as goal

pub loop-k-init : goal.loop-k-init
unfolding marks_to
loop-k-init c = refl

pub loop-k-preserved : goal.loop-k-preserved
unfolding marks_to
loop-k-preserved c =
    let l = c.loop-k in
    let g = c.args.links in
    let e = c.marks_given.ensures ∙ ap₂ (λ (a b : Bool). marks_given a b (get_or g.marks l.k 0)) c.marked-confessed.ensures c.marked-listed.ensures in
    rw (add-one l.k) (ap₂ (λ (w : List ℕ) (x : ℕ). set w l.k x) l.invariant e)
