-- `run_judge::first_positions` meets its contract: the first 32 numbers of the bytes after the sixth are the positions.
use mathlib.Core.Path.{◌∙◌}
use native.Mathlib.Omega.{arith}
use lib.ListN.{drop}
use Rattle.entries.proofs.Entries.{numbers_read}
use Rattle.run_judge.proofs.Positions.{position_dropped}
use Rattle.run_judge.proofs.first_positions.Goals as goal

pub returns : goal.returns
returns c j l =
    let s = c.args.bytes.now in
    rw (c.numbers_at.ensures, c.bytes_from.ensures) (numbers_read (drop 6 s) 32 j (omega arith) l ∙ position_dropped s j)
