-- The four fields are written one behind the other, so that the front is then the header.
use Rattle.frame_check.specs.Kinds.{kind_number}
use Rattle.frame_spec.proofs.Fronts.{over_header}
use Rattle.frame_codec.proofs.put_header.Goals as goal

pub returns : goal.returns
returns c =
    let a = c.args in
    over_header a.buffer.now a.size (kind_number a.kind) a.sender a.phase c.requires c.put_half.ensures (rw c.number.ensures at c.put_half-2.ensures) c.put_half-3.ensures
