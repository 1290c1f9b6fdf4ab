-- `run_whole::step` meets its contract: the piece that is fed is the next one, and what it shows is put and kept.
use mathlib.Core.Path.{refl}
use Rattle.run_stream.proofs.Pieces.{moved}
use Rattle.run_whole.proofs.Going.{going_on}
use Rattle.run_whole.proofs.step.Goals as goal

pub returns-clause-going : goal.returns-clause-going
returns-clause-going c =
    let a = c.args in
    let e = c.feed-fed.ensures in
    let m = moved a.at.used c.feed-fed.result.used a.file.now c.requires e.used_in_bounds.0 e.used_in_bounds.1 in
    λ B G. going_on G c.feed-fed.result.used m.0 e.used_in_bounds.2 (e.by_index _ G.state) c.put-len.ensures refl c.keep-count.ensures
