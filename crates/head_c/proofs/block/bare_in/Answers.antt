-- The seat and the list, with nothing heard.
use mathlib.Core.Path.{ap₂, ◌∙◌}
use Rattle.head_spec.specs.Record.{opened}
use Rattle.head_c.specs.Blocks.{head_of}
use Rattle.head_c.proofs.block.bare_in.Goals as goal

pub returns : goal.returns
unfolding head_of
returns c =
    c.opened.ensures ∙ ap₂ opened c.seat_in-seat.ensures c.list_in-list.ensures
