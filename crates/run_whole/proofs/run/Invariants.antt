-- `run_whole::run` meets its contract: the place that the loop reaches is one that the first leads to, and at its end all bytes are taken.
use mathlib.Core.Path.{◌≡◌}
use Prim.Native.Nat.{◌-◌, ◌≤◌}
use lib.ListN.{length}
use Rattle.run_whole.specs.Buffers.{Buffers}
use Rattle.run_whole.specs.Inner.{Going}
use Rattle.run_whole.proofs.run.Given as goal

abbrev pub invariant-loop-at : goal.invariant-loop-at
invariant-loop-at l =
    (l.at.used ≤ length l.file) × (length l.out ≡ length l.initial.out) × (length l.rows ≡ length l.initial.rows) × (length l.words ≡ length l.initial.words)
    × ((B : Buffers)
    → Going l.file l.initial.at l.initial.carry (record { positions = l.initial.positions; marks = l.initial.marks; lists = l.initial.lists; planted = l.initial.planted; lengths = l.initial.lengths })
    B (record { out = l.initial.out; rows = l.initial.rows; words = l.initial.words })
    → Going l.file l.at l.carry (record { positions = l.positions; marks = l.marks; lists = l.lists; planted = l.planted; lengths = l.lengths })
    B (record { out = l.out; rows = l.rows; words = l.words }))

abbrev pub decreases-loop-at : goal.decreases-loop-at
decreases-loop-at l =
    length l.file - l.at.used
