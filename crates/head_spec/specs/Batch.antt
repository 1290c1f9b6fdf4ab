-- A round's frames in one call (document 02, A1): the input is cut into entries, each a link byte and then a frame as long as its own
-- length field says; the frames are heard in order. The call checks 15, then 24; nothing of it is heard if it is refused.
use Rattle.std.specs.Prelude.{Bool, true, cond, ◌&&◌, List, [], ◌∷◌, ◌++◌, ℕ, zero, suc, ◌+◌, leb, length, get_or, take, drop}
use Rattle.terms.specs.Refusals as refusal
use Rattle.terms.specs.Refusals.{check, leaves}
use Rattle.fields.specs.Bytes.{is_empty, at2}
use Rattle.head_spec.specs.declared.Head.{Head}
use Rattle.head_spec.specs.declared.Answer.{Answer}
use Rattle.head_spec.specs.Calls.{answer, Delivery, hear_each, answers_to}

-- ---- the input, cut into entries

-- the length field of the first entry's frame, behind its link byte; a byte past the end reads as 0 (Q01)
abbrev pub frame_length : List ℕ → ℕ
frame_length s = at2 s 1

-- whether the first entry is whole; if its length field is missing, the frame runs past the end (Q02)
abbrev pub is_whole : List ℕ → Bool
is_whole s = leb 4 (frame_length s) && leb (1 + frame_length s) (length s)

abbrev pub first_entry : List ℕ → Delivery
first_entry s = record { link = get_or s 0 0; bytes = take (frame_length s) (drop 1 s) }

-- the bytes behind the first entry
abbrev pub behind_first : List ℕ → List ℕ
behind_first s = drop (1 + frame_length s) s

-- its bytes, the link byte among them, or 0 if it is not whole
abbrev pub entry_size : List ℕ → ℕ
entry_size s = cond (is_whole s) (1 + frame_length s) 0

-- the whole entries at the front, m of them at most, and whether m at most are all that there is
unfoldable pub cut_into : ℕ → List ℕ → List Delivery
cut_into zero s = []
cut_into (suc m) s = cond (is_whole s) (first_entry s ∷ cut_into m (behind_first s)) []

unfoldable pub is_cut_into : ℕ → List ℕ → Bool
is_cut_into zero s = is_empty s
is_cut_into (suc m) s = cond (is_empty s) true (is_whole s && is_cut_into m (behind_first s))

-- no input has more entries than bytes
abbrev pub deliveries_of : List ℕ → List Delivery
deliveries_of s = cut_into (length s) s

abbrev pub is_batch : List ℕ → Bool
is_batch s = is_cut_into (length s) s

-- ---- the call; room: for how many answers there is room

-- the number of the whole call: an entry is cut wrongly, or there is too little room; no frames at all are taken (Q03, Q04, Q05)
unfoldable pub batch_refusal : List ℕ → ℕ → ℕ
batch_refusal s room = check (is_batch s) refusal.bad_batch_entry (check (leb (length (deliveries_of s)) room) refusal.buffer_too_short 0)

-- the call's number, and the record after it
unfoldable pub hear_batch : Head → List ℕ → ℕ → Answer
hear_batch h s room = answer (batch_refusal s room) (hear_each h (deliveries_of s)) h

-- the lent buffer after it: a byte for each frame, 0 or the number that hearing it alone would answer at that point; the bytes behind them
-- as they were (Q07, Q08)
unfoldable pub batch_answers : Head → List ℕ → List ℕ → List ℕ
batch_answers h s buffer =
    leaves (batch_refusal s (length buffer)) (answers_to h (deliveries_of s) ++ drop (length (deliveries_of s)) buffer) buffer

-- the lent count after it: how many frames there were (Q06)
unfoldable pub batch_count : List ℕ → ℕ → ℕ → ℕ
batch_count s room old = leaves (batch_refusal s room) (length (deliveries_of s)) old
