-- If the batch is cut with no refusal, its frames are heard and answered, and their number is left. If not, nothing is touched.
use mathlib.Core.Path.{ap, sym, ◌∙◌}
use Rattle.head_spec.proofs.Batches.{taken_told, batch_heard, batch_refused}
use Rattle.head_hear.specs.declared.Cuts.{Cuts}
use Rattle.head_hear.proofs.hear_batch.Goals as goal

pub returns-then-c-ne0 : goal.returns-then-c-ne0
returns-then-c-ne0 c =
    let a = c.args in
    batch_refused a.h a.batch.now a.answers.now a.count.now (ap (λ (x : Cuts). x.refusal) c.cut-c.ensures) c.if-c-ne0.true

pub hear_entries-head-requires : goal.hear_entries-head-requires
hear_entries-head-requires c = taken_told _ _ (sym (ap (λ (x : Cuts). x.refusal) c.cut-c.ensures) ∙ c.if-c-ne0.false)

pub returns : goal.returns
returns c =
    let a = c.args in
    rw (c.hear_entries-head.ensures.head, c.hear_entries-head.ensures.answers, ap (λ (x : Cuts). x.entries) c.cut-c.ensures)
    (batch_heard a.h a.batch.now a.answers.now a.count.now (sym (ap (λ (x : Cuts). x.refusal) c.cut-c.ensures) ∙ c.if-c-ne0.false))
