-- The record, then what stands beside it, and then the end of an offer.
use mathlib.Core.Path.{ap, ◌∙◌}
use Rattle.head_c.specs.Blocks.{with_registers, without_offer}
use Rattle.head_c.proofs.block.put_fresh.Goals as goal

pub returns : goal.returns
returns c =
    let a = c.args in
    c.end_offer.ensures ∙ ap (without_offer a.number) (c.put_registers.ensures ∙ ap (with_registers a.b) c.put_seated.ensures)
