-- Demand 3 as one claim about the whole file, for every sequence of bytes.
use Rattle.std.specs.Prelude.{List, ℕ, ◌≤◌}
use Rattle.ring_spec.specs.Converges.{AnyTwo}
use Rattle.run_spec.specs.RunFile.{File, read_file, ends_played}

-- any two phase ends that were played, the start among them, of the heads and, from phase 1 on, the first m listeners: of the heads alone
-- (m = 0), as the customer's order asks, and with all listeners, as document 02, A6, does
abbrev pub Demand3Of : File → Type 0
Demand3Of F = (m : ℕ) → m ≤ F.setup.listeners → AnyTwo F.setup.family F.setup.n m F.setup.f (ends_played F)

abbrev pub EveryFile : Type 0
EveryFile = (s : List ℕ) → Demand3Of (read_file s)
