-- The link is marked, and the list's marks are stored where the array has their place. From place 32 on it has none, and nothing is stored.
use mathlib.Core.Path.{◌≡◌}
use native.Mathlib.Omega.{arith}
use lib.ListN.{length}
use lib.Seq.{set_out}
use borrow.Author.Rules.{rules}
use Rattle.head_hear.proofs.with_list.Goals as goal

pub returns-then-k-lt-HEADS : goal.returns-then-k-lt-HEADS
returns-then-k-lt-HEADS c = rw c.with_mark.ensures

pub returns-else-k-lt-HEADS : goal.returns-else-k-lt-HEADS
returns-else-k-lt-HEADS c =
    let a = c.args in
    let l : length a.links.marks ≡ 32 = search rules in
    rw (c.with_mark.ensures, set_out a.links.marks a.k a.table.marks (omega arith))
