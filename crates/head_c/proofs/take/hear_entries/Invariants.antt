-- Frame after frame: the record that the block is hears and answers them, and the block takes what hearing them changes.
use mathlib.Core.Path.{◌≡◌}
use mathlib.Core.List.{List}
use Prim.Native.Nat.{ℕ}
use lib.ListN.{length}
use Rattle.head_spec.specs.Batch.{deliveries_of}
use Rattle.head_spec.proofs.BatchLoop.{Hearing}
use Rattle.head_c.specs.Blocks.{IsBlock, head_of, heard_each}
use Rattle.head_c.proofs.take.hear_entries.Given as goal

-- the block so far, and the bytes t that remain to be heard in it
pub record Changing (w s v t : List ℕ) : Type 0 where
  pub block : IsBlock v
  pub each : heard_each v (deliveries_of t) ≡ heard_each w (deliveries_of s)

abbrev pub invariant-loop-rest : goal.invariant-loop-rest
invariant-loop-rest l =
    Hearing (head_of l.initial.h) l.batch l.initial.answers (head_of l.h) l.answers l.rest l.i × Changing l.initial.h l.batch l.h l.rest

abbrev pub decreases-loop-rest : goal.decreases-loop-rest
decreases-loop-rest l = length l.rest
