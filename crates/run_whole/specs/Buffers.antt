-- The buffers that a whole file is played into: its listing, and a row of 48 numbers, one for each head and listener, and a mark word for
-- each phase end.
use Rattle.std.specs.Prelude.{Bool, cond, ◌&&◌, List, ℕ, ◌+◌, ◌*◌, ◌/◌, min, eqb, leb, length, take, drop, ℤ}
use Rattle.std.specs.Borrow.{MutBor}
use denote.Triple.Both.{Both}
use Rattle.fields.specs.Bytes.{at2}
use Rattle.ring_spec.specs.Rounds.{receivers}

pub record Buffers : Type 0 where
  pub out : List ℕ
  pub rows : List ℤ
  pub words : List ℕ

-- an array that a function is lent to change: its numbers as the function begins and as it ends
abbrev pub Lent : Type 0 → Type 0
Lent X = Both (MutBor X) (MutBor X)

-- what is lent, as the function begins
abbrev pub lent : Lent (List ℕ) → Lent (List ℤ) → Lent (List ℕ) → Buffers
lent out rows words = record { out = out.entry.now; rows = rows.entry.now; words = words.entry.now }

-- and as it ends
abbrev pub left : Lent (List ℕ) → Lent (List ℤ) → Lent (List ℕ) → Buffers
left out rows words = record { out = out.exit.now; rows = rows.exit.now; words = words.exit.now }

-- how many bytes a phase takes at least, by the kind of the first record: a round record takes 8, and in a ring of one round a phase has
-- one
abbrev pub phase_bytes : List ℕ → ℕ
phase_bytes file = cond (eqb (at2 file 2) 0x14) 8 16

-- how many phase ends a file of its length can have at most: the start, which takes 10 bytes at least, and one for each phase
abbrev pub ends_by_bytes : List ℕ → ℕ
ends_by_bytes file = length file / phase_bytes file + 1

-- how many there are at most in any file: the start, and those of phases 1 to 65,535
abbrev pub all_ends : ℕ
all_ends = 65536

-- how many a file can have at most, by both (D14c)
abbrev pub most_ends : List ℕ → ℕ
most_ends file = min all_ends (ends_by_bytes file)

-- whether buffers of these lengths have room for a file: 64 bytes for each line, 48 numbers and a word for each phase end
unfoldable pub has_room : (file : List ℕ) (out rows words : ℕ) → Bool
has_room file out rows words = leb (64 * (most_ends file + 2)) out && leb (receivers * most_ends file) rows && leb (most_ends file) words

-- row e of a table with 48 numbers to a row
abbrev pub row : ℕ → List ℤ → List ℤ
row e rows = take receivers (drop (receivers * e) rows)
