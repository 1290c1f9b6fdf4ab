-- `ring_play::collection::list_for` meets its contract: what is planted by the struck heads that the walk has passed is in the list. A turn adds the mark and stores the
-- number of one entry.
use Rattle.std.proofs.Common.{◌∙◌, to_z-of_z, w32}
use Rattle.frame_slots.specs.Slots.{planted_in}
use Rattle.ring_play.proofs.round.Struck.{walk_turn, walk_on, walk_ends}
use Rattle.ring_play.proofs.collection.Lists.{list_pass, list_room, list_next, list_last}
use Rattle.ring_play.proofs.collection.list_for.Goals as goal

pub overflow_add-marks : goal.overflow_add-marks
overflow_add-marks c =
    let a = c.args in
    let plant = planted_in a.planted.now a.lengths.now in
    let k = c.in-Some.k in
    let t = walk_turn c.loop-k.invariant (list_pass a.s plant a.i _ _ _) c.in-Some.ensures.steps.1.0 c.in-Some.ensures.steps.1.1 in
    record {
      fits =
          list_room a.s plant a.i k t.2 t.0 t.1
          c.entry_planted-e.ensures c.mark_of.ensures c.requires.1;
    }

pub loop-k-preserved : goal.loop-k-preserved
loop-k-preserved c =
    let a = c.args in
    let plant = planted_in a.planted.now a.lengths.now in
    let l = c.loop-k in
    let k = c.in-Some.k in
    let t = walk_turn l.invariant (list_pass a.s plant a.i _ _ _) c.in-Some.ensures.steps.1.0 c.in-Some.ensures.steps.1.1 in
    walk_on l.invariant k c.in-Some.ensures.steps
    (list_next a.s plant a.i k t.2 t.0 t.1 c.entry_planted-e.ensures c.mark_of.ensures
    (to_z-of_z {w = w32} (record { sfits = c.value_of.type_inv }) ∙ c.value_of.ensures))

pub returns : goal.returns
returns c =
    let a = c.args in
    let plant = planted_in a.planted.now a.lengths.now in
    let l = c.loop-k in
    list_last _ _ _ _ _ _ (walk_ends l.invariant (list_pass a.s plant a.i _ _ _) c.in-None.ensures.steps.1)
