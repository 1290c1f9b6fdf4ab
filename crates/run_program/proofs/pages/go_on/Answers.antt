-- `run_program::pages::go_on` meets its contract: that the system did what it was asked for says where the program stands.
use lib.ListN.{length}
use Rattle.run_program.proofs.Running.{opens, opening, page_written, write_fits}
use Rattle.run_program.proofs.pages.go_on.Goals as goal

pub returns-in-Nothing-clause-by_index : goal.returns-in-Nothing-clause-by_index
returns-in-Nothing-clause-by_index c =
    let told = c.in-Nothing.is in
    let (room, text) = c.first_page-len.ensures in
    rw (told, c.placed.ensures)
    (λ a out R. opens _ _ _ (opening c.args.program c.args.piece.now c.args.page.now (rw told at c.requires) R) room text)

pub returns-in-Wrote-clause-by_index : goal.returns-in-Wrote-clause-by_index
returns-in-Wrote-clause-by_index c =
    let told = c.in-Wrote.is in
    let (some, left) = write_fits c.args.program _ (length c.args.piece.now) (rw told at c.requires) in
    rw told
    (λ a out R. c.play_on.ensures.by_index _ _ (rw c.advanced.ensures (page_written c.args.program _ some left a out _ _ _ _ R)))
