-- The memory lent to the player, as one value. The bytes of a record that is cut (the carry) are kept apart: they are scratch.
use Rattle.std.specs.Prelude.{List, ℕ, ℤ}

-- of each receiver its position, of each head the list that it filled, by marks and numbers, and what is planted for each link (D12)
pub record Memory : Type 0 where
  pub positions : List ℤ
  pub marks : List ℕ
  pub lists : List (List ℤ)
  pub planted : List ℕ
  pub lengths : List ℕ

-- the memory, of what is lent: the numbers of each array as a function begins, or as it ends
abbrev pub memory_lent : (positions : List ℤ) (marks : List ℕ) (lists : List (List ℤ)) (planted lengths : List ℕ) → Memory
memory_lent positions marks lists planted lengths = record { positions = positions; marks = marks; lists = lists; planted = planted; lengths = lengths }

-- the same memory but for the positions
abbrev pub with_positions : Memory → List ℤ → Memory
with_positions M positions = record { positions = positions; marks = M.marks; lists = M.lists; planted = M.planted; lengths = M.lengths }

-- the same memory but for what is planted
abbrev pub with_slots : Memory → List ℕ → List ℕ → Memory
with_slots M planted lengths = record { positions = M.positions; marks = M.marks; lists = M.lists; planted = planted; lengths = lengths }
