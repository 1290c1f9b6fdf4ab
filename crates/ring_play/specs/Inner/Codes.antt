-- Entries as codes: one number for each, so that two entries are the same if their codes are.
use Rattle.std.specs.Prelude.{◌≡◌, ℕ, ◌+◌, ◌%◌, ◌^◌, cond, List, ℤ, pos, nat_le, slice_index, slice_index_or, None, Some}
use Rattle.terms.specs.Positions.{eq_z}
use Rattle.terms.specs.Entry.{Entry}
use Rattle.marks.specs.Marks.{bit_of}
use Rattle.terms.specs.Counting.{Each, bit}
use Rattle.convergence.specs.Trust.{Given, nothing, confessed, gave}

-- the code of a null entry: a number that is no position
abbrev pub no_code : ℤ
no_code = pos 1000001

abbrev pub code_of : Entry → ℤ
code_of None = no_code
code_of (Some u) = u

-- the entry of a code
abbrev pub entry_of : ℤ → Entry
entry_of c = cond (eq_z c no_code) None (Some c)

-- the entry whose code stands at place j
abbrev pub entry_in : List ℤ → ℕ → Entry
entry_in codes j = entry_of (slice_index_or codes j (pos 0))

-- the code of entry j of a list with these marks and the numbers E
abbrev pub code_at : ℕ → List ℤ → ℕ → ℤ
code_at marks E j = cond (bit_of marks j) (slice_index_or E j (pos 0)) no_code

-- the code that a receiver takes for entry j: the shared one if as many lists have it as are needed, and none if the entry's link confessed
abbrev pub code_taken : (codes : List ℤ) (same : List ℕ) (need confesses j : ℕ) → ℤ
code_taken codes same need confesses j = cond (bit_of confesses j) no_code (cond (nat_le need (slice_index same j)) (slice_index_or codes j (pos 0)) no_code)

-- 1 if a link gave a list with the code c at entry j
abbrev pub holds : ℕ → ℤ → Given → ℕ
holds j c nothing = 0
holds j c confessed = 0
holds j c (gave l) = bit (eq_z (code_of (l j)) c)

-- one more for each entry at which a list has the code; counts are words
pub record Tallied (n marks : ℕ) (E codes : List ℤ) (same same' : List ℕ) : Type 0 where
  pub counts : Each n (λ j. slice_index same' j ≡ (slice_index same j + bit (eq_z (code_at marks E j) (slice_index_or codes j (pos 0)))) % 2 ^ 32)
