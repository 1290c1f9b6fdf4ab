-- What a settling answers: the new position with its kept range, or the number of a refusal.
use Rattle.std.specs.Prelude.{ℕ, Result}
use Rattle.settle_midpoint.specs.declared.Kept.{Kept}

abbrev pub Settled : Type 0
Settled = Result Kept ℕ
