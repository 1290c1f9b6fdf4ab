-- Document 02, A5: the head as a register window of sixteen bytes, and what it keeps outside the record: pending events and a mask. Of both
-- only the three low bits count: 0 phase end, 1 refusal 25, 2 strike over.
use Rattle.std.specs.Prelude.{Bool, true, false, not, cond, ◌&&◌, ◌||◌, List, [], ◌∷◌, ℕ, zero, suc, ◌+◌, ◌*◌, eqb, ltb, get_or, None, Some}
use Rattle.terms.specs.Refusals as refusal
use Rattle.terms.specs.Refusals.{check, leaves}
use Rattle.terms.specs.Entry.{Entry}
use Rattle.fields.specs.Bytes.{word_of, put2, put4}
use Rattle.terms.specs.Counting.{bit}
use Rattle.marks.specs.Marks.{bit_of, with_mark}
use Rattle.head_spec.specs.declared.Seat.{Seat}
use Rattle.head_spec.specs.declared.Closed.{Closed}
use Rattle.head_window.specs.declared.Registers.{Registers}

-- ---- events and mask

-- the byte with these three bits
abbrev pub three : (ℕ → Bool) → ℕ
three g = bit (g 0) + 2 * bit (g 1) + 4 * bit (g 2)

abbrev pub phase_over : ℕ
phase_over = 0

abbrev pub too_few : ℕ
too_few = 1

abbrev pub strike_over : ℕ
strike_over = 2

-- one event more
abbrev pub with_event : ℕ → Registers → Registers
with_event k b = record { events = with_mark b.events k; mask = b.mask }

-- ---- which call changes them; c is the number that it answers

-- a start clears both (Q21)
abbrev pub started_registers : ℕ → Registers → Registers
started_registers c b = leaves c (record { events = 0; mask = 0 }) b

-- a restart sets strike over (Q27)
abbrev pub restarted_registers : ℕ → Registers → Registers
restarted_registers c b = leaves c (with_event strike_over b) b

-- a closing that is refused 25 sets that event: the one exception from demand 1; an offer sets none (Q25)
abbrev pub closed_registers : Closed → Registers → Registers
closed_registers (Closed.Refused c) b = cond (eqb c refusal.too_few_trusted) (with_event too_few b) b
closed_registers Closed.Listed b = b
closed_registers (Closed.Settled k) b = b

-- an adoption ends a phase (document 02, A8; Q26)
abbrev pub adopted_registers : ℕ → Registers → Registers
adopted_registers c b = leaves c (with_event phase_over b) b

-- ---- the sixteen bytes

abbrev pub is_held : Entry → Bool
is_held None = false
is_held (Some v) = true

-- the word of a position, 0 if there is none
abbrev pub position_word : Entry → ℕ
position_word None = 0
position_word (Some v) = word_of v

-- byte 3: position held, healed in this round, confession round. After the last phase end no round is open in which it was healed (Q23,
-- Q24).
abbrev pub status_bits : Seat → ℕ → Bool
status_bits s zero = is_held s.position
status_bits s (suc zero) = s.healed && not s.ended
status_bits s (suc (suc k)) = not (eqb s.round 0)

-- the sixteen bytes, of a listener too (Q30)
unfoldable pub window : Seat → Registers → List ℕ
window s b =
    s.n ∷ s.f ∷ s.number ∷ three (status_bits s)
    ∷ put2 s.phase (put4 (position_word s.position) (three (bit_of b.events) ∷ three (bit_of b.mask) ∷ 0 ∷ 0 ∷ 0 ∷ 0 ∷ []))

-- ---- reading a byte: 16 past byte 15

-- the number that reading the byte at this address answers (Q18)
abbrev pub read_refusal : ℕ → ℕ
read_refusal at = check (ltb at 16) refusal.no_such_register 0

-- the byte, or what was where it is to go
abbrev pub byte_read : (s : Seat) (b : Registers) (at old : ℕ) → ℕ
byte_read s b at old = leaves (read_refusal at) (get_or (window s b) at 0) old

-- ---- writing a byte: 16 but for bytes 10 and 11

-- the number that writing there answers (Q19)
abbrev pub set_refusal : ℕ → ℕ
set_refusal at = check (eqb at 10 || eqb at 11) refusal.no_such_register 0

-- byte 10 clears the events written as one; byte 11 sets the mask to its low three bits (Q19)
abbrev pub set_registers : ℕ → ℕ → Registers → Registers
set_registers at x b =
    cond (eqb at 10) (record { events = three (λ k. bit_of b.events k && not (bit_of x k)); mask = b.mask })
    (cond (eqb at 11) (record { events = b.events; mask = three (bit_of x) }) b)

-- ---- the interrupt line is up exactly when a pending event is in the mask

-- by the two bytes alone, without memory (Q28)
unfoldable pub is_line_up : Registers → Bool
is_line_up b = not (eqb (three (λ k. bit_of b.events k && bit_of b.mask k)) 0)
