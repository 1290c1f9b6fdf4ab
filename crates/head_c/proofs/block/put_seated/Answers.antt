-- The record is put into the block if nothing is refused.
use mathlib.Core.Path.{ap, sym, ◌∙◌}
use Rattle.terms.specs.declared.Table.{Table}
use Rattle.terms.proofs.Refusals.{unchanged, changed}
use Rattle.head_spec.specs.Record.{opened}
use Rattle.head_c.specs.Blocks.{with_head}
use Rattle.head_c.proofs.block.put_seated.Goals as goal

pub returns-then-number-eq0 : goal.returns-then-number-eq0
returns-then-number-eq0 c =
    let a = c.args in
    c.put_opened.ensures ∙ ap (λ (t : Table). with_head (opened a.seat t) a.h.now) c.no_entries.ensures ∙ sym (changed _ _ _ c.if-number-eq0.true)

pub returns-else-number-eq0 : goal.returns-else-number-eq0
returns-else-number-eq0 c = unchanged _ _ _ c.if-number-eq0.false
