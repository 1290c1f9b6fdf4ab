-- `run_program::pages::play_on` meets its contract: the next page is filled, if all of this one is written and some of the piece is not yet played.
use mathlib.Core.Path.{sym, ◌∙◌}
use Rattle.run_program.proofs.Running.{page_filled}
use Rattle.run_program.proofs.pages.play_on.Goals as goal

pub returns-clause-by_index : goal.returns-clause-by_index
returns-clause-by_index c =
    let asks = sym c.asks_read.ensures ∙ c.if-not-asks_read.false in
    let e = c.fill-filled.ensures in
    λ a out T. rw c.placed.ensures (page_filled T asks c.fill-filled.result c.if-end-at.false c.part-rest.ensures e.fills e.by_index)
