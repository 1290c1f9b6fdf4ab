-- "Each then holds up to n lists of n entries": what the links gave in a confession round, as the code holds it.
use Rattle.std.specs.Prelude.{cond, List, [], ℕ, get_or, ℤ}
use Rattle.marks.specs.Marks.{bit_of}
use Rattle.entries.specs.Entries.{entry_at}
use Rattle.convergence.specs.Trust.{Given, nothing, confessed, gave}
use Rattle.settle_trust.specs.declared.Links.{Links}

-- what link k gave: a confession if it is so marked, else a list if it is so marked, else nothing (D5)
unfoldable pub given_by : Links → List (List ℤ) → ℕ → Given
given_by g lists k =
    cond (bit_of g.confessed k) confessed
    (cond (bit_of g.listed k) (gave (entry_at (get_or g.marks k 0) (get_or lists k []))) nothing)
