-- What the scale answers, and the way back: a number, or the number of a refusal. A reading that no step in range has is none.
use Rattle.std.specs.Prelude.{ℕ, ℤ, Option, Result}

abbrev pub Scaled : Type 0
Scaled = Result ℤ ℕ

abbrev pub Unscaled : Type 0
Unscaled = Result (Option ℤ) ℕ
