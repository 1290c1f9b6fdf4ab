-- What the lists that all receivers hear show of the trusted entries.
use Rattle.std.specs.Prelude.{◌≡◌, ℕ, ◌+◌, ◌-◌, ◌<◌, ◌≤◌, true, false, ◌≢◌, List, ℤ, pos, slice_index, slice_index_or}
use Rattle.terms.specs.Counting.{Each, sum}
use Rattle.convergence.specs.Trust.{Given, support, has_confessed, confessions}
use Rattle.ring_play.specs.Inner.Codes.{no_code, holds}

-- G: what the links give all receivers; p: how many links give each receiver something else. For each entry of a link that has not
-- confessed, so many lists have its code, and no other position can be trusted, whatever those p links give. Even if they all confess, some
-- lists have to agree (D16b).
pub record Shares (n f p : ℕ) (G : ℕ → Given) (codes : List ℤ) (same : List ℕ) : Type 0 where
  pub small : n ≤ 32
  pub enough : p < n - f - confessions n G
  pub few : Each n (λ j. slice_index same j ≤ 32)
  pub counts : Each n (λ j. has_confessed (G j) ≡ false → slice_index same j ≡ sum n (λ k. holds j (slice_index_or codes j (pos 0)) (G k)))
  pub alone : Each n (λ j. has_confessed (G j) ≡ false → (w : ℤ) → w ≢ slice_index_or codes j (pos 0) → support n G j w + p < n - f)
  pub healed : Each n (λ j. has_confessed (G j) ≡ true → slice_index_or codes j (pos 0) ≡ no_code)
