-- The loop's invariant: the first j entries are written, and the buffer is as long as it was. A turn writes the next entry just behind them.
use mathlib.Core.Path.{refl, ◌∙◌}
use Rattle.fields.specs.Bytes.{over}
use Rattle.frame_spec.specs.Written.{entry_bytes}
use Rattle.frame_spec.proofs.Fronts.{over_entry}
use Rattle.frame_codec.proofs.put_entries.Goals as goal

pub loop-j-init : goal.loop-j-init
unfolding over entry_bytes
loop-j-init c = (refl, refl)

pub loop-j-preserved : goal.loop-j-preserved
loop-j-preserved c =
    let a = c.args in
    (c.put_word.auto.s ∙ c.loop-j.invariant.0, over_entry a.entries.now a.buffer.now c.loop-j.j c.loop-j.invariant.1 c.entry_word.ensures c.put_word.ensures)
