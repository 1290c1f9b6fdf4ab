-- The loop's invariant: the first j entries are written, and the buffer is as long as it was. A turn writes the next entry just behind them.
use mathlib.Core.Path.{◌≡◌}
use lib.ListN.{length}
use Rattle.fields.specs.Bytes.{over}
use Rattle.frame_spec.specs.Written.{entry_bytes}
use Rattle.frame_codec.proofs.put_entries.Given as goal

abbrev pub invariant-loop-j : goal.invariant-loop-j
invariant-loop-j l = (length l.buffer ≡ length l.initial.buffer) × (l.buffer ≡ over (entry_bytes l.entries l.j) 12 l.initial.buffer)
