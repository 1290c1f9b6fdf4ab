-- Refused, or offered.
use Rattle.head_c.specs.Blocks.{head_of}
use Rattle.head_c.proofs.Closing.{refuses, offers}
use Rattle.head_c.proofs.close.close_last.Goals as goal

pub returns-in-Err : goal.returns-in-Err
returns-in-Err c =
    let w = c.args.h.now in
    rw c.number.ensures (refuses w (head_of w) _ c.in-Err.ensures)

pub returns-in-Ok : goal.returns-in-Ok
returns-in-Ok c =
    let w = c.args.h.now in
    offers w (head_of w) _ c.in-Ok.ensures c.put_offer.ensures
