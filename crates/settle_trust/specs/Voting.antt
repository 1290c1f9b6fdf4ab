-- The vote by which the search for a trusted entry finds the one cell that can stand in more than half of the lists. Nothing here is needed to
-- read what the public functions promise.
use Rattle.std.specs.Prelude.{List, ◌≢◌, ℕ, ◌+◌, ◌*◌, ◌≤◌}
use Rattle.settle_trust.specs.declared.Vote.{Vote}
use Rattle.settle_trust.specs.Cells.{equal_to}

-- The vote among the first k cells: no cell but the leader is more than half of those that are not 0, and the lead says how much is left to
-- that.
pub record Leads (k : ℕ) (cells : List ℕ) (v : Vote) : Type 0 where
  pub any : (x : ℕ) → x ≢ 0 → 2 * equal_to k cells x ≤ v.some + v.lead
  pub other : (x : ℕ) → x ≢ 0 → x ≢ v.leader → 2 * equal_to k cells x + v.lead ≤ v.some
