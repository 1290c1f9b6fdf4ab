-- A kept range that is there, or none. What the last phase end since the start or restart settled: none before the first. And what closing
-- offered, until it is adopted or lapses (document 02, A8), which is kept outside the record.
use Rattle.std.specs.Prelude.{Option}
use Rattle.settle_midpoint.specs.declared.Kept.{Kept}

abbrev pub LastKept : Type 0
LastKept = Option Kept

abbrev pub Offer : Type 0
Offer = Option Kept
