-- `run_whole::close` meets its contract: what the end of the file shows is put and kept, and the last line put.
use mathlib.Core.Path.{refl}
use Rattle.run_whole.proofs.Going.{closes}
use Rattle.run_whole.proofs.close.Goals as goal

pub returns : goal.returns
returns c =
    let e = c.finish-finished.ensures in
    λ file carry B all G.
    closes G all (e.by_index _ carry G.state) e.len_bound.0 e.len_bound.1 c.put-len.ensures refl c.keep-count.ensures c.put.ensures
