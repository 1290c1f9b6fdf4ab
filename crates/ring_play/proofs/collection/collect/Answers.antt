-- `ring_play::collection::collect` meets its contract: what the unstruck heads send is read once, and each head that is not struck lists it with what is planted to it.
use Rattle.std.proofs.Common.{cond, ap, ◌∙◌}
use Rattle.terms.specs.declared.Table.{Table}
use Rattle.ring_play.specs.Memory.{hears, row_in}
use Rattle.frame_slots.specs.Slots.{planted_in}
use Rattle.ring_play.proofs.round.Frames.{phase_small}
use Rattle.ring_play.proofs.collection.Lists.{sent_shared, heard_list}
use Rattle.ring_play.proofs.collection.collect.Goals as goal

pub fill_lists-requires : goal.fill_lists-requires
fill_lists-requires c =
    let a = c.args in
    sent_shared a.s a.positions.now c.entries_sent-sent.ensures

pub returns : goal.returns
returns c =
    let a = c.args in
    λ fit i.
    c.fill_lists.ensures (sent_shared a.s a.positions.now c.entries_sent-sent.ensures) i
    ∙ ap (λ (t : Table). cond (hears a.s i) t (row_in a.marks.now a.lists.now i))
    (heard_list a.s a.positions.now (phase_small a.s c.well_formed.0) fit (planted_in a.planted.now a.lengths.now) i)
