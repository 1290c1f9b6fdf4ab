-- `ring_play::codes::settle_codes` meets its contract: before entry j the order holds the positions among the entries below j. After the last entry these
-- are all that settling asks of the entries.
use Rattle.settle_midpoint.specs.Orders.{OrderAfter}
use Rattle.ring_play.specs.Inner.Codes.{entry_in}
use Rattle.ring_play.proofs.codes.settle_codes.Given as goal

abbrev pub invariant-loop-c : goal.invariant-loop-c
invariant-loop-c l =
    OrderAfter l.c-index (entry_in l.codes) l.len l.positions
