-- If the batch is cut with no refusal, its frames are heard and answered, and their number is left. If not, nothing is touched.
use mathlib.Core.Path.{ap, sym, ◌∙◌}
use lib.ListN.{length}
use borrow.Author.Rules.{rules}
use Rattle.head_spec.specs.declared.Answer.{Answer}
use Rattle.head_spec.specs.Batch.{deliveries_of}
use Rattle.head_spec.proofs.Batches.{taken_told, batch_heard, batch_refused}
use Rattle.head_hear.specs.declared.Cuts.{Cuts}
use Rattle.head_c.specs.Blocks.{IsBlock, head_of, heard_each}
use Rattle.terms.proofs.Refusals.{unchanged}
use Rattle.head_c.proofs.focus_head_hear_batch.Goals as goal

pub returns-then-c-ne0 : goal.returns-then-c-ne0
returns-then-c-ne0 c =
    let a = c.args in
    let w = a.h.now in
    let refusal = ap (λ (x : Cuts). x.refusal) c.cut-c.ensures in
    let (heard, answers, count) = batch_refused (head_of w) a.batch.now a.answers.now a.count.now refusal c.if-c-ne0.true in
    record {
      refusal = refusal;
      block = unchanged c.cut-c.result.refusal (heard_each w (deliveries_of a.batch.now)) w c.if-c-ne0.true;
      head = ap (λ (x : Answer). x.head) heard;
      answers = answers;
      count = count;
    }

-- past the test nothing is refused
pub hear_entries-requires : goal.hear_entries-requires
hear_entries-requires c =
    let a = c.args in
    let block : IsBlock a.h.now = search rules in
    let (told, room) = taken_told a.batch.now (length a.answers.now) (sym (ap (λ (x : Cuts). x.refusal) c.cut-c.ensures) ∙ c.if-c-ne0.false) in
    (block, told, room)

pub returns : goal.returns
returns c =
    let a = c.args in
    let made = c.hear_entries.ensures in
    let none = sym (ap (λ (x : Cuts). x.refusal) c.cut-c.ensures) ∙ c.if-c-ne0.false in
    let (heard, answers, count) = batch_heard (head_of a.h.now) a.batch.now a.answers.now a.count.now none in
    record {
      refusal = sym none;
      block = made.0;
      head = made.1 ∙ ap (λ (x : Answer). x.head) heard;
      answers = made.2 ∙ answers;
      count = ap (λ (x : Cuts). x.entries) c.cut-c.ensures ∙ count;
    }
