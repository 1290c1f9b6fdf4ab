-- Before entry j the order holds the positions among the trusted entries below j. After the last entry these are all that settling asks of the entries.
use mathlib.Core.Path.{◌≡◌}
use mathlib.Core.List.{[]}
use Prim.Native.Nat.{ℕ}
use lib.ListN.{length, get_or}
use Rattle.terms.specs.Entry.{Entry}
use Rattle.settle_midpoint.specs.Orders.{OrderAfter}
use Rattle.settle_position.specs.Deciding.{Prepared}
use Rattle.head_c.specs.Steps.{rows_in}
use Rattle.head_c.proofs.settle.settle_lists.Given as goal

abbrev pub invariant-loop-j : goal.invariant-loop-j
invariant-loop-j l =
    (length l.cells ≡ 32) × ((E : ℕ → Entry) → Prepared E (rows_in l.h) l.marks (get_or (rows_in l.h) l.first []) l.same l.d → OrderAfter l.j E l.len l.positions)
