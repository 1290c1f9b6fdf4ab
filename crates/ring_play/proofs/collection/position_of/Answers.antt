-- `ring_play::collection::position_of` meets its contract: a refusal leaves 0, and a settling its position.
use Rattle.std.proofs.Common.{◌∙◌, to_z-of_z, w32}
use Rattle.ring_play.proofs.collection.Lists.{position_settled_lem}
use Rattle.ring_play.proofs.collection.position_of.Goals as goal

pub returns : goal.returns
returns c =
    let a = c.args in
    to_z-of_z {w = w32} (record { sfits = c.position_in.type_inv }) ∙ c.position_in.ensures ∙ position_settled_lem a.s a.list c.head_count-n.ensures c.rounds_up-up.ensures c.settle_table.ensures
