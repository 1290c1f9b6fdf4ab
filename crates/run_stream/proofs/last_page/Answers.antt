-- `run_stream::last_page` meets its contract: the last line of a phase, if there is one, and the last line of all are put one after the other.
use mathlib.Core.Path.{ap, ◌∙◌}
use mathlib.Core.List.{List, ◌++◌}
use Prim.Native.Nat.{ℕ}
use Rattle.texts.specs.Texts.{bytes_of}
use Rattle.run_stream.proofs.last_page.Goals as goal

pub returns-clause-by_index : goal.returns-clause-by_index
returns-clause-by_index c =
    λ a carry L.
    rw (c.put.ensures.1 ∙ ap (λ (l : List ℕ). l ++ bytes_of c.finish-end.result.verdict) c.put-len.ensures.1)
    (c.finish-end.ensures.by_index a carry L).finishes
