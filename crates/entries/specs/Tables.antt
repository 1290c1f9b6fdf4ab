-- A table of entries as the code holds it: a mark word, and numbers that are 0 if the entry is null.
use Rattle.std.specs.Prelude.{List, ℕ, zero, suc, ◌+◌, ◌*◌, ◌^◌, set, ℤ, pos, None, Some}
use Rattle.terms.specs.Entry.{Entry}
use Rattle.terms.specs.declared.Table.{Table}
use Rattle.entries.specs.Entries.{entry_at, zeros}

-- entry j of a table
abbrev pub table_at : Table → ℕ → Entry
table_at t = entry_at t.marks t.entries

abbrev pub mark : Entry → ℕ
mark None = 0
mark (Some u) = 1

abbrev pub value_of : Entry → ℤ
value_of None = pos 0
value_of (Some u) = u

unfoldable pub marks_of : ℕ → (ℕ → Entry) → ℕ
marks_of zero E = 0
marks_of (suc n) E = marks_of n E + mark (E n) * 2 ^ n

unfoldable pub values_of : ℕ → (ℕ → Entry) → List ℤ
values_of zero E = zeros
values_of (suc n) E = set (values_of n E) n (value_of (E n))

-- entries 0 .. n - 1 of E as a table (D4)
abbrev pub table_of : ℕ → (ℕ → Entry) → Table
table_of n E = record { marks = marks_of n E; entries = values_of n E }
