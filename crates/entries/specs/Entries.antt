-- A list as it travels: a mark word, and an entry of four bytes for each head, 0 if it is null.
use Rattle.std.specs.Prelude.{Bool, true, false, cond, ◌&&◌, List, ℕ, zero, suc, ◌*◌, get_or, set, replicate, ℤ, pos, None, Some}
use Rattle.terms.specs.Positions.{is_position, eq_z}
use Rattle.terms.specs.Entry.{Entry}
use Rattle.fields.specs.Bytes.{signed_at}
use Rattle.marks.specs.Marks.{bit_of}

-- entry j of a list with these marks and the numbers E: null if it is not marked
unfoldable pub entry_at : ℕ → List ℤ → ℕ → Entry
entry_at marks E j = cond (bit_of marks j) (Some (get_or E j (pos 0))) None

-- whether a number fits in a list: a position if it is marked, and else 0 (P15)
abbrev pub fits : Bool → ℤ → Bool
fits true v = is_position v
fits false v = eq_z v (pos 0)

-- whether the first n numbers of the bytes s fit in a list with these marks
unfoldable pub entries_fit : ℕ → List ℕ → ℕ → Bool
entries_fit marks s zero = true
entries_fit marks s (suc j) = entries_fit marks s j && fits (bit_of marks j) (signed_at s (4 * j))

unfoldable pub zeros : List ℤ
zeros = replicate 32 (pos 0)

-- the first n numbers of the bytes s, and 0 from there to 32
unfoldable pub numbers : List ℕ → ℕ → List ℤ
numbers s zero = zeros
numbers s (suc j) = set (numbers s j) j (signed_at s (4 * j))
