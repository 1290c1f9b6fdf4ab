-- The frame that says something, from sender k in phase p of a ring of n heads; and a frame put at the front of a lent buffer.
use Rattle.std.specs.Prelude.{Bool, cond, List, [], ◌∷◌, ◌++◌, ℕ, zero, suc, ◌+◌, ◌*◌, leb, length, get_or, drop, ℤ, pos, None, Some, Ok, Err}
use Rattle.terms.specs.Refusals as refusal
use Rattle.terms.specs.declared.Table.{Table}
use Rattle.fields.specs.Bytes.{put2, put4, word_of}
use Rattle.frame_spec.specs.Length.{Written}
use Rattle.frame_spec.specs.Said.{Meaning, refused, collected, listed, confessed}

-- two bytes length, two bytes kind, sender, two bytes phase
abbrev pub header : (len kind sender phase : ℕ) (rest : List ℕ) → List ℕ
header len kind k p rest = put2 len (put2 kind (k ∷ put2 p rest))

-- the first n entries, of 4 bytes each
unfoldable pub entry_bytes : List ℤ → ℕ → List ℕ
entry_bytes E zero = []
entry_bytes E (suc j) = entry_bytes E j ++ put4 (word_of (get_or E j (pos 0))) []

abbrev pub position_frame : ℕ → ℕ → ℤ → List ℕ
position_frame k p v = header 11 1 k p (put4 (word_of v) [])

abbrev pub silence_frame : ℕ → ℕ → List ℕ
silence_frame k p = header 7 2 k p []

abbrev pub list_frame : (n sender phase : ℕ) (t : Table) → List ℕ
list_frame n k p t = header (12 + 4 * n) 3 k p (n ∷ put4 t.marks (entry_bytes t.entries n))

abbrev pub confession_frame : ℕ → ℕ → List ℕ
confession_frame k p = header 7 4 k p []

abbrev pub frame_of : (n sender phase : ℕ) (m : Meaning) → List ℕ
frame_of n k p (refused c) = []
frame_of n k p (collected None) = silence_frame k p
frame_of n k p (collected (Some v)) = position_frame k p v
frame_of n k p (listed t) = list_frame n k p t
frame_of n k p confessed = confession_frame k p

-- ---- into a lent buffer

abbrev pub fits_in : List ℕ → List ℕ → Bool
fits_in frame buffer = leb (length frame) (length buffer)

-- the frame's length, or 24 (P19)
unfoldable pub written : List ℕ → List ℕ → Written
written frame buffer = cond (fits_in frame buffer) (Ok (length frame)) (Err refusal.buffer_too_short)

-- the frame at the front, and the bytes after it as they were; all of it as it was if the frame is too long
unfoldable pub buffered : List ℕ → List ℕ → List ℕ
buffered frame buffer = cond (fits_in frame buffer) (frame ++ drop (length frame) buffer) buffer
