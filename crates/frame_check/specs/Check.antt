-- Document 01, "Frames": two bytes length (of the whole frame), two bytes kind, one byte sender, two bytes phase, then the rest; and the
-- frame check, which looks at length, kind and a list's own count alone.
use Rattle.std.specs.Prelude.{Bool, true, false, cond, List, [], ℕ, ◌+◌, ◌*◌, eqb, leb, length, get_or, drop}
use Rattle.terms.specs.Refusals as refusal
use Rattle.terms.specs.Refusals.{check}
use Rattle.fields.specs.Bytes.{at2}

pub data Kind : Type 0 where
  position : Kind
  silence : Kind
  list : Kind
  confession : Kind
  unknown : Kind

-- the kind that bytes 2 and 3 of a frame name, both together (P05)
abbrev pub kind_of : ℕ → Kind
kind_of k =
    cond (eqb k 1) position (cond (eqb k 2) silence (cond (eqb k 3) list (cond (eqb k 4) confession unknown)))

abbrev pub is_known : Kind → Bool
is_known position = true
is_known silence = true
is_known list = true
is_known confession = true
is_known unknown = false

-- the length of a frame, by its kind and, of a list, its count (P04)
abbrev pub length_of : Kind → ℕ → ℕ
length_of position count = 11
length_of silence count = 7
length_of list count = 12 + 4 * count
length_of confession count = 7
length_of unknown count = 0

-- the common fields
abbrev pub length_field : List ℕ → ℕ
length_field s = at2 s 0

abbrev pub kind_field : List ℕ → Kind
kind_field s = kind_of (at2 s 2)

abbrev pub sender_field : List ℕ → ℕ
sender_field s = get_or s 4 0

abbrev pub phase_field : List ℕ → ℕ
phase_field s = at2 s 5

-- the first byte of the rest: of a list its count (P03)
abbrev pub count_field : List ℕ → ℕ
count_field s = get_or s 7 0

-- 6, 7, 8, before the checks that follow (P01, P02, P06, P08)
unfoldable pub check_frame : List ℕ → ℕ → ℕ
check_frame s more =
    check (leb 4 (length s)) refusal.stated_length_differs
    (check (eqb (length_field s) (length s)) refusal.stated_length_differs
    (check (is_known (kind_field s)) refusal.unknown_kind
    (check (eqb (length s) (length_of (kind_field s) (count_field s))) refusal.wrong_length_for_kind more)))

-- the frame check alone: 0, or the refusal
abbrev pub frame_refusal : List ℕ → ℕ
frame_refusal s = check_frame s 0

-- what follows the common fields; of a refused frame nothing (P07)
unfoldable pub rest_of : List ℕ → List ℕ
rest_of s = cond (eqb (frame_refusal s) 0) (drop 7 s) []
