-- Frames side by side: a slot of 140 bytes, the longest frame, and a length for each.
use Rattle.std.specs.Prelude.{Bool, cond, ◌&&◌, List, ◌≡◌, ℕ, ◌+◌, ◌*◌, ◌≤◌, ◌<◌, eqb, ltb, leb, length, get_or, set, take, drop}
use Rattle.fields.specs.Bytes.{copied}

-- the bytes of a slot
abbrev pub slot_size : ℕ
slot_size = 140

-- and the slots of a head: one for each of 48 receivers
abbrev pub slots_each : ℕ
slots_each = 48

-- slot k: its first bytes, as many as its length says
unfoldable pub slot : List ℕ → List ℕ → ℕ → List ℕ
slot bytes lengths k = take (get_or lengths k 0) (drop (slot_size * k) bytes)

-- the bytes planted on the link from head k to receiver i: slot 48 k + i
abbrev pub planted_in : (bytes lengths : List ℕ) (k i : ℕ) → List ℕ
planted_in bytes lengths k i = slot bytes lengths (slots_each * k + i)

-- whether bytes are planted on the link from k to i: the links of 32 heads to 48 receivers, and 140 bytes at most
abbrev pub is_plantable : ℕ → ℕ → List ℕ → Bool
is_plantable k i b = ltb k 32 && ltb i slots_each && leb (length b) slot_size

-- the bytes of all slots, and their lengths, with b planted on that link; as they were if it cannot be
unfoldable pub with_planted : (bytes : List ℕ) (k i : ℕ) (b : List ℕ) → List ℕ
with_planted bytes k i b = cond (is_plantable k i b) (copied bytes (slot_size * (slots_each * k + i)) b) bytes

unfoldable pub with_length : (lengths : List ℕ) (k i : ℕ) (b : List ℕ) → List ℕ
with_length lengths k i b = cond (is_plantable k i b) (set lengths (slots_each * k + i) (length b)) lengths

-- read back, with b planted from k to i: on that link b, and on every other such link, if its slot has at most 140 bytes, what was there
abbrev pub PlantedThen : (k i : ℕ) (b bytes lengths bytes' lengths' : List ℕ) → Type 0
PlantedThen k i b bytes lengths bytes' lengths' =
    length b ≤ slot_size → (j m : ℕ) → j < 32 → m < slots_each → length (planted_in bytes lengths j m) ≤ slot_size
    → planted_in bytes' lengths' j m ≡ cond (eqb k j && eqb i m) b (planted_in bytes lengths j m)
