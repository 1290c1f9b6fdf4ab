-- The position is marked, and stored where the array has its place. From place 32 on it has none, and nothing is stored.
use mathlib.Core.Path.{◌≡◌}
use native.Mathlib.Omega.{arith}
use lib.ListN.{length}
use lib.Seq.{set_out}
use mir.Facts.{to_z-of_z}
use borrow.Author.Rules.{rules}
use Rattle.head_hear.proofs.with_position.Goals as goal

pub returns-then-k-lt-HEADS : goal.returns-then-k-lt-HEADS
returns-then-k-lt-HEADS c = rw (c.with_mark.ensures, to_z-of_z c.ranges.v)

pub returns-else-k-lt-HEADS : goal.returns-else-k-lt-HEADS
returns-else-k-lt-HEADS c =
    let a = c.args in
    let l : length a.list.entries ≡ 32 = search rules in
    rw (c.with_mark.ensures, set_out a.list.entries a.k a.v (omega arith))
