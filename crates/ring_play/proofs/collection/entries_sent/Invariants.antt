-- `ring_play::collection::entries_sent` meets its contract: before head k the marks and the numbers are those of the heads below k.
use Rattle.std.proofs.Common.{◌≡◌}
use Rattle.entries.specs.Tables.{marks_of, values_of}
use Rattle.ring_play.specs.Inner.Collection.{sent_by}
use Rattle.ring_play.proofs.collection.entries_sent.Given as goal

abbrev pub invariant-loop-k : goal.invariant-loop-k
invariant-loop-k l =
    (l.marks ≡ marks_of l.k (sent_by l.s l.positions)) × (l.entries ≡ values_of l.k (sent_by l.s l.positions))
