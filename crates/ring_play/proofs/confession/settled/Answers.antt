-- `ring_play::confession::settled` meets its contract: a refusal leaves 0, and a settling its position.
use Rattle.std.proofs.Common.{◌∙◌, to_z-of_z, w32}
use Rattle.settle_trust.specs.Received.{given_by}
use Rattle.ring_play.proofs.confession.Settling.{settled_is}
use Rattle.ring_play.proofs.confession.settled.Goals as goal

pub returns : goal.returns
returns c =
    let a = c.args in
    to_z-of_z {w = w32} (record { sfits = c.position_in.type_inv }) ∙ c.position_in.ensures
    ∙ settled_is a.s (given_by a.links a.rows.now) c.head_count-n.ensures c.rounds_up-up.ensures c.settle_by.ensures
