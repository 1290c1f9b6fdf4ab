-- What the limits call answers: the lowest and the highest new position, or the number of a refusal.
use Rattle.std.specs.Prelude.{ℕ, ℤ, Result}

abbrev pub Ranged : Type 0
Ranged = Result (ℤ × ℤ) ℕ
