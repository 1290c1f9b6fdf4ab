-- Document 01, "Stops": the numbers of the refusals, and checks in a fixed order. src/refusal.rt has the same table for the code.
use Rattle.std.specs.Prelude.{Bool, true, false, ℕ, zero, suc}

-- The first check that fails gives its number; 0 is none (D2).
abbrev pub check : Bool → ℕ → ℕ → ℕ
check true number rest = rest
check false number rest = number

-- what a call answers if its checks gave this number: x if that is 0, and else the number, as `refused` puts it
abbrev pub unless_refused : {A : Type 0} → (ℕ → A) → ℕ → A → A
unless_refused refused zero x = x
unless_refused refused (suc number) x = refused (suc number)

-- what a call leaves of memory that it may change: as it was if its number is a refusal's
abbrev pub leaves : {A : Type 0} (number : ℕ) (new old : A) → A
leaves zero new old = new
leaves (suc number) new old = old

-- head count
abbrev pub bad_head_count : ℕ
bad_head_count = 1

-- struck limit too high
abbrev pub struck_limit_too_high : ℕ
struck_limit_too_high = 2

-- head or link number n or more
abbrev pub number_too_high : ℕ
number_too_high = 3

-- position out of range
abbrev pub position_out_of_range : ℕ
position_out_of_range = 4

-- phase out of range, or round neither 0 (collection) nor 1 (confession)
abbrev pub phase_out_of_range : ℕ
phase_out_of_range = 5

-- fewer than 4 bytes, or the length field differs from the bytes given
abbrev pub stated_length_differs : ℕ
stated_length_differs = 6

-- unknown kind
abbrev pub unknown_kind : ℕ
unknown_kind = 7

-- a length wrong for its kind and count
abbrev pub wrong_length_for_kind : ℕ
wrong_length_for_kind = 8

-- sender is not the link
abbrev pub sender_is_not_link : ℕ
sender_is_not_link = 9

-- list count not n, or a mark at n or above
abbrev pub bad_count_or_marks : ℕ
bad_count_or_marks = 10

-- entry out of range, or not 0 where null
abbrev pub entry_out_of_range : ℕ
entry_out_of_range = 11

-- scale
abbrev pub bad_scale : ℕ
bad_scale = 12

-- run record cut short, of wrong length, of unknown kind or out of order, a planted pair against its rule or with a number n or more, or
-- file ended before a start or inside a phase
abbrev pub bad_run_record : ℕ
bad_run_record = 13

-- more than f struck, or a mark at n or above
abbrev pub too_many_struck : ℕ
too_many_struck = 14

-- an entry's length field is missing, below 4 or runs past the end (document 02, A1)
abbrev pub bad_batch_entry : ℕ
bad_batch_entry = 15

-- a write to another byte of the window than 10 and 11, or a read past byte 15 (document 02, A5)
abbrev pub no_such_register : ℕ
no_such_register = 16

-- a listener is told to send (document 02, A6)
abbrev pub listener_sends_nothing : ℕ
listener_sends_nothing = 17

-- n below 4f + 1, in a ring of one round, in place of 2 (document 02, A9)
abbrev pub one_round_limit_too_high : ℕ
one_round_limit_too_high = 18

-- a lowest above its highest, either of them out of range, or either not 0 where null (document 02, A12)
abbrev pub bad_limits : ℕ
bad_limits = 19

-- link already heard this round
abbrev pub already_heard : ℕ
already_heard = 21

-- frame of the other round
abbrev pub other_round : ℕ
other_round = 22

-- frame of another phase
abbrev pub other_phase : ℕ
other_phase = 23

-- buffer too short for the frame
abbrev pub buffer_too_short : ℕ
buffer_too_short = 24

-- too few trusted
abbrev pub too_few_trusted : ℕ
too_few_trusted = 25

-- phase 65,535 has ended
abbrev pub run_has_ended : ℕ
run_has_ended = 26

-- adopting with no offer standing (document 02, A8)
abbrev pub no_offer : ℕ
no_offer = 27
