-- A walk over the struck heads, from the lowest up.
use Rattle.std.specs.Prelude.{◌≡◌, ℕ, ◌+◌, ◌<◌, Option, MatchOption}
use Rattle.ring_play.specs.Memory.{heads}
use Rattle.ring_play.specs.declared.round.StruckHeads.{StruckHeads}
use Rattle.ring_play.specs.Inner.Struck.{NextStruck}

-- the walk gave the next struck head and stands behind it, or there was none
abbrev pub GivesStruck : StruckHeads → Option ℕ → StruckHeads → Type 0
GivesStruck a r b =
    (b.stage ≡ a.stage) × MatchOption r (NextStruck a.stage a.from (heads a.stage)) (λ k. (k < heads a.stage) × NextStruck a.stage a.from k × (b.from ≡ k + 1))
