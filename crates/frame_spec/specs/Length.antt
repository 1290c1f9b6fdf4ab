-- What writing answers: the length of what was written, or the number of a refusal.
use Rattle.std.specs.Prelude.{ℕ, Result}

abbrev pub Written : Type 0
Written = Result ℕ ℕ
