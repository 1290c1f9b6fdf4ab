-- Link j confessed; or the list of the reference decides; or the column is searched.
use mathlib.Core.Path.{sym, ◌∙◌}
use Rattle.settle_trust.proofs.Cells.{holds_null, holds_same}
use Rattle.head_c.proofs.settle.cell_in.Goals as goal

pub returns-then-marked : goal.returns-then-marked
returns-then-marked c =
    (c.requires.4, λ E P. holds_same holds_null (sym (P.healed _ (sym c.marked.ensures ∙ c.if-marked.true))))

pub returns-then-decides : goal.returns-then-decides
returns-then-decides c =
    let x = c.cell_at-x.ensures in
    let unconfessed = sym c.marked.ensures ∙ c.if-marked.false in
    (c.requires.4, λ E P. holds_same x (sym (P.shown _ c.requires.2 unconfessed (rw x.cell at (c.decides.ensures.0 c.if-decides.true)))))

pub returns-then-lacks : goal.returns-then-lacks
returns-then-lacks c =
    let x = c.cell_at-x.ensures in
    let unconfessed = sym c.marked.ensures ∙ c.if-marked.false in
    (c.requires.4, λ E P. holds_same holds_null (sym (P.lacking _ c.requires.2 unconfessed (rw x.cell at (c.lacks.ensures c.if-lacks.true)))))

pub returns : goal.returns
returns c =
    let x = c.cell_at-x.ensures in
    let unconfessed = sym c.marked.ensures ∙ c.if-marked.false in (
      c.search_in.ensures.0,
      λ E P. holds_same c.search_in.ensures.1
          (sym (P.searched _ c.requires.2 unconfessed (λ t. c.decides.ensures.1 c.if-decides.false (rw (← x.cell) at t)))),
    )
