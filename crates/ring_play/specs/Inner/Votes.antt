-- A vote for the code that most lists have.
use Rattle.std.specs.Prelude.{◌≡◌, ℕ, ◌+◌, ◌-◌, ◌*◌, ◌≤◌, Bool, cond, not, ◌&&◌, ◌≢◌, ℤ, ◌==◌}
use Rattle.terms.specs.Positions.{eq_z}
use Rattle.marks.specs.Marks.{bit_of}

-- link k gives a list
abbrev pub gives_list : (confesses lists k : ℕ) → Bool
gives_list confesses lists k = not (bit_of confesses k) && bit_of lists k

-- a list with the code x votes: l is by how much the code c leads, c' and l' are both after the vote
pub record Voted (x c : ℤ) (l : ℕ) (c' : ℤ) (l' : ℕ) : Type 0 where
  pub code : c' ≡ cond (l == 0) x c
  pub lead : l' ≡ cond (l == 0) 1 (cond (eq_z x c) (l + 1) (l - 1))

-- of L lists, count w have the code w, and c leads by l
pub record CodeLeads (count : ℤ → ℕ) (L : ℕ) (c : ℤ) (l : ℕ) : Type 0 where
  pub others : (w : ℤ) → w ≢ c → 2 * count w + l ≤ L
  pub leader : 2 * count c ≤ L + l
  pub within : l ≤ L
