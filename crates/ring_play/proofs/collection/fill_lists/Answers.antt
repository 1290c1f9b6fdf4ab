-- `ring_play::collection::fill_lists` meets its contract: before head i, the unstruck heads below i have their list, and all others have what they had.
use Rattle.std.proofs.Common.{◌≡◌, ℕ, ◌<◌, not, List, [], length, get_or, set, ℤ, sym, ap, ◌∙◌, arith, rules, get_or-set_same, set-set}
use Rattle.terms.specs.declared.Table.{Table}
use Rattle.ring_play.specs.declared.Stage.{Stage}
use Rattle.ring_play.specs.Inner.Collection.{Shared}
use Rattle.ring_play.proofs.round.Filling.{filled_passed}
use Rattle.ring_play.proofs.collection.Lists.{shared_as, filled_row}
use Rattle.ring_play.proofs.collection.fill_lists.Goals as goal
use Rattle.ring_play.proofs.collection.fill_lists.Goals.{then-not-marked, else-not-marked}

-- the row that was just stored
module _ (s : Stage) (t : Table) (lists : List (List ℤ)) (i : ℕ) (below : i < length lists) where
  stored : get_or (set lists i t.entries) i [] ≡ t.entries
  stored = get_or-set_same lists i t.entries [] below

  abbrev shared_here : Shared s t → Shared s (record { marks = t.marks; entries = get_or (set lists i t.entries) i [] })
  shared_here = shared_as (ap (λ (x : List ℤ). record { marks = t.marks; entries = x }) stored)

pub loop-i-preserved : goal.loop-i-preserved
loop-i-preserved c =
    let a = c.args in
    let l = c.loop-i in
    let marks_long : length l.marks ≡ 32 = search rules in
    let b = ap not (sym c.marked.ensures) in
    elim c.if-not-marked.branch [
      | then-not-marked w ↦ (
        search rules,
        λ S.
            rw (w.marks-is, w.lists-is, set-set l.lists l.i a.sent.entries _)
            (filled_row _ _ _ l.marks l.lists l.i (l.invariant.1 S) (omega (arith, marks_long)) (omega arith) (b ∙ ap not w.if-not-marked.true)
            (w.list_for.ensures (shared_here a.s a.sent l.lists l.i (omega arith) S))),
      )
      | else-not-marked w ↦ (
        search rules,
        λ S. rw (w.marks-is, w.lists-is) (filled_passed _ _ _ l.i (l.invariant.1 S) (b ∙ ap not w.if-not-marked.false)),
      )
    ]
