-- The numbers that a file can end with: 0, and the stops of run records. So what a call that plays a file answers besides, as 24 for a buffer
-- that is too short, is not mistaken for how the file ends (P50b, D14c). proofs/FileNumbers.antt proves it.
use Rattle.std.specs.Prelude.{Bool, true, ◌||◌, List, ◌≡◌, ℕ, eqb}
use Rattle.run_spec.specs.RunFile.{read_file, ending}

abbrev pub is_file_number : ℕ → Bool
is_file_number c = eqb c 0 || (eqb c 1 || (eqb c 2 || (eqb c 18 || (eqb c 4 || (eqb c 13 || (eqb c 14 || eqb c 26))))))

abbrev pub FileNumbers : Type 0
FileNumbers = (s : List ℕ) → is_file_number (ending (read_file s)) ≡ true
