-- No mark, and 32 zeros, are the table of nulls.
use mathlib.Core.Path.{refl}
use Rattle.entries.specs.Entries.{zeros}
use Rattle.head_spec.specs.Record.{no_entries}
use Rattle.head_calls.proofs.no_entries.Goals as goal

pub returns : goal.returns
unfolding no_entries zeros
returns c = refl
