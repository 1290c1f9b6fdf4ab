-- `settle_position::settle_entries` meets its contract: before entry j the order holds the positions among the entries below j. After the last entry
-- these are all that settling asks of the entries.
use Prim.Native.Nat.{ℕ}
use Rattle.terms.specs.Entry.{Entry}
use Rattle.settle_midpoint.specs.Orders.{OrderAfter}
use Rattle.settle_position.specs.Deciding.{Prepared}
use Rattle.settle_position.proofs.settle_entries.Given as goal

abbrev pub invariant-loop-j : goal.invariant-loop-j
invariant-loop-j l =
    (E : ℕ → Entry) → Prepared E l.lists l.marks l.reference l.same l.d → OrderAfter l.j E l.len l.positions
