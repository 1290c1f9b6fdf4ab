-- `ring_play::shared::settle_all` meets its contract: what is given all alike shows the codes and counts, and from these all receivers settle.
use Rattle.std.proofs.Common.{true≢false}
use Rattle.ring_play.proofs.shared.Told.{shared_by}
use Rattle.ring_play.proofs.shared.settle_all.Goals as goal

-- the lists show codes and counts
pub fill_positions-requires : goal.fill_positions-requires
fill_positions-requires c =
    let a = c.args in
    shared_by a.s a.links a.rows.now c.head_count-n.ensures c.count_below-struck.ensures (c.share.ensures c.if-not-share.false) c.lists_needed-need.ensures

pub returns : goal.returns
returns c =
    let a = c.args in
    record {
      settles = λ e. c.fill_positions.ensures
          (shared_by a.s a.links a.rows.now c.head_count-n.ensures c.count_below-struck.ensures (c.share.ensures c.if-not-share.false) c.lists_needed-need.ensures);
      stays = λ e. absurd (true≢false e);
    }
