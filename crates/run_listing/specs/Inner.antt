-- What the private functions promise each other. Readers of the public promises do not need this file.
use Rattle.std.specs.Prelude.{◌≡◌, false, ℕ, ◌≤◌}
use Rattle.terms.specs.Counting.{Each}
use Rattle.ring_spec.specs.Rounds.{receivers, is_receiver}

-- k is at most 48, and from it on there is no receiver of n heads and m listeners
pub record Reaches (n m k : ℕ) : Type 0 where
  pub most : k ≤ receivers
  pub none : Each receivers (λ i. k ≤ i → is_receiver n m i ≡ false)
