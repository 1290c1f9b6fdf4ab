-- `run_whole::put` meets its contract: the bytes of the text are copied in behind those that are there, if the buffer has room for them.
use mathlib.Core.Path.{refl, ap, sym, ◌∙◌}
use native.Mathlib.Omega.{arith}
use lib.Seq.{paste}
use Rattle.fields.proofs.Copying.{copied_fits}
use Rattle.texts.specs.Texts.{bytes_of}
use Rattle.texts.proofs.Writing.{full, text_long}
use Rattle.run_whole.proofs.put.Goals as goal

pub returns-then-count-gt64 : goal.returns-then-count-gt64
returns-then-count-gt64 c = record { long = λ h. absurd (omega arith); puts = λ h. absurd (omega arith) }

pub returns-then-out-count : goal.returns-then-out-count
returns-then-out-count c = record { long = text_long c.args.t c.well_formed.1.1.0; puts = λ h k. absurd (omega arith) }

pub returns-then-out-count-2 : goal.returns-then-out-count-2
returns-then-out-count-2 c = record { long = text_long c.args.t c.well_formed.1.1.0; puts = λ h k. absurd (omega arith) }

pub slice_bounds-bytes-end : goal.slice_bounds-bytes-end
slice_bounds-bytes-end c =
    omega (arith, full c.args.t c.well_formed.1.1.0)

pub slice_bounds-put_bytes-end : goal.slice_bounds-put_bytes-end
slice_bounds-put_bytes-end c = sym (text_long c.args.t c.well_formed.1.1.0 (omega arith))

pub returns : goal.returns
returns c =
    let a = c.args in
    let n = text_long c.args.t c.well_formed.1.1.0 (omega arith) in
    let fits = copied_fits a.out.now a.len (bytes_of a.t) (omega arith) in
    record { long = text_long c.args.t c.well_formed.1.1.0; puts = λ h k. (refl, c.put_bytes.ensures ∙ fits ∙ ap (paste a.out.now a.len (bytes_of a.t)) n) }
