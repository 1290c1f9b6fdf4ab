-- What the reach call answers: a position for the open entry, or none, or the number of a refusal.
use Rattle.std.specs.Prelude.{ℕ, ℤ, Option, Result}

abbrev pub Reached : Type 0
Reached = Result (Option ℤ) ℕ
