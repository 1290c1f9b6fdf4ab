-- What a frame says on link k, to a head of a ring of n heads in phase p and round r (0 collection, 1 confession). Nothing else of the head
-- matters.
use Rattle.std.specs.Prelude.{Bool, true, ◌&&◌, List, ℕ, eqb, get_or, drop, ℤ, None, Some}
use Rattle.terms.specs.Refusals as refusal
use Rattle.terms.specs.Refusals.{check, unless_refused}
use Rattle.terms.specs.Positions.{is_position}
use Rattle.terms.specs.Entry.{Entry}
use Rattle.terms.specs.declared.Table.{Table}
use Rattle.fields.specs.Bytes.{at4, signed_at}
use Rattle.marks.specs.Marks.{marks_below}
use Rattle.entries.specs.Entries.{entries_fit, numbers}
use Rattle.frame_check.specs.Check.{Kind, position, silence, list, confession, unknown, kind_field, sender_field, phase_field, check_frame}
use Rattle.frame_spec.specs.declared.Said.{Said}

-- the round that a kind belongs to
abbrev pub round_of : Kind → ℕ
round_of position = 0
round_of silence = 0
round_of list = 1
round_of confession = 1
round_of unknown = 2

-- what follows the common fields: of a position its number; of a list its count (1 byte), marks (4 bytes) and entries
abbrev pub rest_field : List ℕ → List ℕ
rest_field s = drop 7 s

abbrev pub number_in : List ℕ → ℤ
number_in t = signed_at t 0

abbrev pub count_in : List ℕ → ℕ
count_in t = get_or t 0 0

abbrev pub marks_in : List ℕ → ℕ
marks_in t = at4 t 1

abbrev pub entries_in : List ℕ → List ℕ
entries_in t = drop 5 t

-- 10, of the rest t: list count n, and no mark at n or above (P14)
abbrev pub count_fits : Kind → ℕ → List ℕ → Bool
count_fits position n t = true
count_fits silence n t = true
count_fits list n t = eqb (count_in t) n && marks_below (marks_in t) n
count_fits confession n t = true
count_fits unknown n t = true

-- 11, of the rest t: entries in range, and 0 where null; the position of a collection frame is an entry (P10, P15)
abbrev pub range_fits : Kind → ℕ → List ℕ → Bool
range_fits position n t = is_position (number_in t)
range_fits silence n t = true
range_fits list n t = entries_fit (marks_in t) (entries_in t) n
range_fits confession n t = true
range_fits unknown n t = true

-- 6, 7, 8, 22, 9, 23, 10, 11 (P13, P17, Q78)
unfoldable pub refusal_of : (n phase round link : ℕ) (frame : List ℕ) → ℕ
refusal_of n p r k s =
    check_frame s
    (check (eqb (round_of (kind_field s)) r) refusal.other_round
    (check (eqb (sender_field s) k) refusal.sender_is_not_link
    (check (eqb (phase_field s) p) refusal.other_phase
    (check (count_fits (kind_field s) n (rest_field s)) refusal.bad_count_or_marks
    (check (range_fits (kind_field s) n (rest_field s)) refusal.entry_out_of_range 0)))))

-- ---- what it says

pub data Meaning : Type 0 where
  refused : ℕ → Meaning
  collected : Entry → Meaning
  listed : Table → Meaning
  confessed : Meaning

-- the table in the rest t of a list frame
unfoldable pub table_in : ℕ → List ℕ → Table
table_in n t = record { marks = marks_in t; entries = numbers (entries_in t) n }

abbrev pub meaning : Kind → ℕ → List ℕ → Meaning
meaning position n t = collected (Some (number_in t))
meaning silence n t = collected None
meaning list n t = listed (table_in n t)
meaning confession n t = confessed
meaning unknown n t = refused refusal.unknown_kind

unfoldable pub said : (n phase round link : ℕ) (frame : List ℕ) → Meaning
said n p r k s = unless_refused refused (refusal_of n p r k s) (meaning (kind_field s) n (rest_field s))

-- ---- as the code has it: an enum, and apart from it the table of a list

-- the enum's value of a meaning; the table of a list stands beside it (D16d)
abbrev pub said_of : Meaning → Said
said_of (refused c) = Said.Refused c
said_of (collected e) = Said.Collection e
said_of (listed t) = Said.List
said_of confessed = Said.Confession

abbrev pub meant : Said → Table → Meaning
meant (Said.Refused c) t = refused c
meant (Said.Collection e) t = collected e
meant Said.List t = listed t
meant Said.Confession t = confessed
