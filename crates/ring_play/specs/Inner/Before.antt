-- A receiver that settles before another, if the same is planted to both. What both make of what they hear is the same, so it need not be
-- made twice.
use Rattle.std.specs.Prelude.{◌≡◌, ℕ, ◌<◌, true, List, None, Some, Option}
use Rattle.ring_play.specs.declared.Stage.{Stage}
use Rattle.ring_play.specs.Memory.{settles, SamePlanted}

-- a receiver that settles before receiver i, if any
abbrev pub SettlesBefore : Stage → ℕ → Option ℕ → Type 0
SettlesBefore s i None = Unit {0}
SettlesBefore s i (Some m) = (m < i) × (settles s m ≡ true)

-- and the same is planted to it
abbrev pub AsBefore : (s : Stage) (plant : ℕ → ℕ → List ℕ) (i : ℕ) (before : Option ℕ) → Type 0
AsBefore s plant i None = Unit {0}
AsBefore s plant i (Some m) = (m < i) × (settles s m ≡ true) × SamePlanted s plant i m
