-- A phase end as the player holds it.
use Rattle.std.specs.Prelude.{not, ◌||◌, List, ℕ, get_or, ℤ, pos, Some}
use Rattle.marks.specs.Marks.{bit_of}
use Rattle.convergence.specs.Phases.{End}
use Rattle.ring_spec.specs.Rounds.{is_receiver}

-- a phase end of n heads and m listeners: the mark word of those struck in its last round, and the positions of the others
unfoldable pub end_in : (n m struck : ℕ) (positions : List ℤ) → End
end_in n m struck positions =
    record { struck = λ i. not (is_receiver n m i) || bit_of struck i; at = λ i. Some (get_or positions i (pos 0)) }
