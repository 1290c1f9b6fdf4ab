-- A block that is there in full is cut out and read.
use borrow.Author.Rules.{rules}
use Rattle.head_c.specs.Pages.{block_at}
use Rattle.head_c.proofs.Pages.{reads, reading_none, cut_out, reading_there}
use Rattle.head_c.proofs.page.reading_at.Goals as goal

pub returns-then-blocks-k : goal.returns-then-blocks-k
returns-then-blocks-k c = let a = c.args in reading_none a.blocks.now a.k c.if-blocks-k.true

pub returns : goal.returns
returns c =
    let a = c.args in
    let seat = cut_out a.blocks.now a.k c.seat_in-seat.ensures in
    reading_there a.blocks.now a.k (search rules) (reads (block_at a.blocks.now a.k) seat c.reading_of.ensures)
