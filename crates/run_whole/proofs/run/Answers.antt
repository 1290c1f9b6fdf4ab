-- `run_whole::run` meets its contract: the place that the loop reaches is one that the first leads to, and at its end all bytes are taken.
use native.Mathlib.Omega.{arith}
use Rattle.run_whole.specs.Buffers.{Buffers}
use Rattle.run_whole.proofs.Going.{going_first}
use Rattle.run_whole.proofs.run.Goals as goal

pub returns : goal.returns
returns c =
    let a = c.args in
    let B : Buffers = record { out = a.out.now; rows = a.rows.now; words = a.words.now } in
    let e = c.title_line-title.ensures in
    let first = going_first B c.requires (c.begin.ensures _ _) e.result_value e.len_bound c.put.ensures in
    c.close.ensures a.file.now _ B (omega arith) (c.loop-at.invariant.4 B first)
