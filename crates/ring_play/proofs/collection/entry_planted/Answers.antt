-- `ring_play::collection::entry_planted` meets its contract: the entry is what the planted frame says.
use Rattle.std.proofs.Common.{ℕ, List, ap, ◌∙◌}
use Rattle.frame_spec.specs.Said.{said}
use Rattle.head_spec.specs.Record.{heard_entry}
use Rattle.ring_play.specs.Memory.{heads}
use Rattle.ring_play.specs.Inner.Collection.{heard_of}
use Rattle.ring_play.proofs.collection.entry_planted.Goals as goal

pub returns : goal.returns
unfolding heard_of
returns c =
    let a = c.args in
    c.entry_in.ensures (heads a.s) ∙ ap (λ (b : List ℕ). heard_entry (said (heads a.s) a.s.phase 0 a.k b)) c.planted-frame.ensures
