-- `camera::focus_reach` meets its contract: it passes on what `reach` promises.
use Rattle.camera.proofs.Lent.{position_lent}
use Rattle.camera.proofs.focus_reach.Goals as goal

pub returns : goal.returns
returns c =
    position_lent c.ranges.wanted c.reach.ensures c.put_reached.ensures
