-- `fields::copy_within` meets its contract: before each step the first j bytes are pasted, and as many are left over by eight of those to come as of all.
use mathlib.Core.Path.{◌≡◌}
use Prim.Native.Nat.{◌-◌, ◌≤◌, ◌%◌}
use lib.ListN.{length}
use lib.Seq.{paste}
use Rattle.fields.proofs.copy_within.Given as goal

abbrev pub invariant-loop-j : goal.invariant-loop-j
invariant-loop-j l = (l.j ≤ length l.bytes) × (length l.s ≡ length l.initial.s) × (l.s ≡ paste l.initial.s l.at l.bytes l.j) × (length l.bytes % 8 ≡ (length l.bytes - l.j) % 8)

abbrev pub decreases-loop-j : goal.decreases-loop-j
decreases-loop-j l = length l.bytes - l.j
