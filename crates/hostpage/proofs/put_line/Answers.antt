-- `hostpage::put_line` meets its contract: the bytes of the text are as many as it says, of 64.
use mathlib.Core.Path.{ap, sym}
use Prim.Native.Nat.{ℕ, ◌+◌}
use native.Mathlib.Omega.{arith}
use Rattle.texts.proofs.Writing.{full, text_long}
use Rattle.hostpage.proofs.put_line.Goals as goal

pub slice_bounds-bytes-end : goal.slice_bounds-bytes-end
slice_bounds-bytes-end c =
    omega (arith, full c.args.t c.well_formed.1.1.0, c.requires.0)

pub slice_bounds-put_bytes-end : goal.slice_bounds-put_bytes-end
slice_bounds-put_bytes-end c = sym (text_long c.args.t c.well_formed.1.1.0 c.requires.0)

pub returns : goal.returns
returns c =
    (ap (λ (n : ℕ). c.args.at + n) (sym (text_long c.args.t c.well_formed.1.1.0 c.requires.0)), c.put_bytes.ensures)
