-- `run_stream::fill` meets its contract: at the head of the loop the page holds the text that the bytes before `used` show, and the state is that after them.
use Prim.Native.Nat.{◌-◌, ◌≤◌, ◌<◌}
use lib.ListN.{length, take}
use Rattle.run_stream.specs.Pages.{page_size}
use Rattle.run_stream.proofs.Pieces.{Reached}
use Rattle.run_stream.proofs.fill.Given as goal

abbrev pub invariant-loop-used : goal.invariant-loop-used
invariant-loop-used l =
    Reached l.bytes l.initial.player
    l.initial.carry (record { positions = l.initial.positions; marks = l.initial.marks; lists = l.initial.lists; planted = l.initial.planted; lengths = l.initial.lengths })
    l.player
    l.carry (record { positions = l.positions; marks = l.marks; lists = l.lists; planted = l.planted; lengths = l.lengths })
    l.used (take l.len l.page)
    × (l.len ≤ page_size) × (0 < l.len → 0 < l.used)

abbrev pub decreases-loop-used : goal.decreases-loop-used
decreases-loop-used l =
    length l.bytes - l.used
