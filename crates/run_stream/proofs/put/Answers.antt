-- `run_stream::put` meets its contract: the bytes of the text are copied in behind those that are there, where the page has room for them.
use mathlib.Core.Path.{refl, ap, sym, ◌∙◌}
use Prim.Native.Nat.{◌+◌}
use native.Mathlib.Omega.{arith}
use lib.ListN.{take}
use Rattle.texts.specs.Texts.{bytes_of}
use Rattle.texts.proofs.Writing.{full, text_long, copied_behind}
use Rattle.run_stream.proofs.put.Goals as goal

pub slice_bounds-bytes-end : goal.slice_bounds-bytes-end
slice_bounds-bytes-end c =
    omega (arith, full c.args.t c.well_formed.1.1.0, c.requires.1)

pub slice_bounds-put_bytes-end : goal.slice_bounds-put_bytes-end
slice_bounds-put_bytes-end c = sym (text_long c.args.t c.well_formed.1.1.0 c.requires.1)

pub returns : goal.returns
returns c =
    let a = c.args in
    let n = text_long a.t c.well_formed.1.1.0 c.requires.1 in
    (refl, ap (take (a.len + a.t.len)) c.put_bytes.ensures ∙ rw n at (copied_behind a.page.now (bytes_of a.t) a.len (omega (arith, c.requires.0))))
