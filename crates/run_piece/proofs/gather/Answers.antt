-- `run_piece::gather` meets its contract: the bytes are copied in behind those that are there, where the slice has room for them.
use mathlib.Core.Path.{ap, ◌∙◌}
use Prim.Native.Nat.{◌+◌}
use lib.ListN.{length, take}
use Rattle.texts.proofs.Writing.{copied_behind}
use Rattle.run_piece.proofs.gather.Goals as goal

pub returns : goal.returns
returns c =
    let a = c.args in
    ap (take (a.have + length a.bytes.now)) c.put_bytes.ensures ∙ copied_behind a.carry.now a.bytes.now a.have c.requires
