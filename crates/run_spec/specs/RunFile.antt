-- Document 01, "The run file": what bytes say, record by record, as they come; how a file ends; and which rounds are played.
use Rattle.std.specs.Prelude.{Bool, true, false, not, cond, ◌&&◌, ◌||◌, List, [], ◌∷◌, ◌++◌, ℕ, zero, suc, ◌+◌, ◌*◌, ◌^◌, ltb, leb, eqb, length, get_or, drop, ℤ, pos}
use Rattle.terms.specs.Refusals as refusal
use Rattle.terms.specs.Refusals.{check, unless_refused, leaves}
use Rattle.terms.specs.Sizes.{check_size}
use Rattle.terms.specs.declared.Family.{Family}
use Rattle.terms.specs.declared.Family.TheVariants.{TwoRounds, OneRound}
use Rattle.terms.specs.Positions.{is_position}
use Rattle.fields.specs.Bytes.{is_empty, at2, at4, signed_at}
use Rattle.marks.specs.Marks.{bit_of, marks_below}
use Rattle.terms.specs.Counting.{sum, bit}
use Rattle.ring_spec.specs.Rounds.{Plant, Round, Ring, is_receiver, ends_phase, most_rounds, PhaseEnd, ring_after, ends_after}
use Rattle.run_spec.specs.declared.Pair.{Pair}

-- what the start record gives, and the number of listeners (document 02, A6)
pub record Setup : Type 0 where
  pub begun : Bool  -- a start was accepted
  pub family : Family  -- by the kind of the start record (document 02, A9)
  pub n : ℕ
  pub f : ℕ
  pub first : ℕ → ℤ  -- the positions of the start record
  pub listeners : ℕ  -- 0 if no record gave them

-- the rounds given: those played, the latest first, and the last one, if it is pending
pub record Rounds : Type 0 where
  pub played : List Round
  pub pending : Bool  -- the last round was given, and is not yet played
  pub last : Round

-- what has been read
pub record File : Type 0 where
  pub part : List ℕ  -- the bytes of the record that is not yet whole
  pub fault : ℕ  -- the number of the first fault, 0 for none
  pub setup : Setup
  pub rounds : Rounds

abbrev pub no_setup : Setup
no_setup = record { begun = false; family = TwoRounds; n = 0; f = 0; first = λ i. pos 0; listeners = 0 }

abbrev pub no_round : Round
no_round = record { struck = 0; amended = false; plants = [] }

abbrev pub no_rounds : Rounds
no_rounds = record { played = []; pending = false; last = no_round }

-- between two records, without a fault
abbrev pub between : Setup → Rounds → File
between S R = record { part = []; fault = 0; setup = S; rounds = R }

unfoldable pub unread : File
unread = between no_setup no_rounds

-- the number of rounds given
abbrev pub rounds_given : File → ℕ
rounds_given F = length F.rounds.played + bit F.rounds.pending

-- ---- records: kinds, and which is allowed, with what length

pub data RecordKind : Type 0 where
  start : Family → RecordKind
  round : RecordKind
  plant : RecordKind
  listeners : RecordKind
  strikes : RecordKind
  other : RecordKind

-- the kind of a record by its number; the kinds of frames are none (P50c, Q81)
abbrev pub record_kind : ℕ → RecordKind
record_kind k =
    cond (eqb k 0x10) (start TwoRounds) (cond (eqb k 0x11) round (cond (eqb k 0x12) plant
    (cond (eqb k 0x15) listeners (cond (eqb k 0x13) strikes (cond (eqb k 0x14) (start OneRound) other)))))

-- two bytes length (of the whole record), two bytes kind
abbrev pub length_in : List ℕ → ℕ
length_in s = at2 s 0

abbrev pub kind_in : List ℕ → RecordKind
kind_in s = record_kind (at2 s 2)

-- the lengths that some start record has, of up to 255 positions, and some planted record, of up to 140 bytes
abbrev pub is_start_length : ℕ → Bool
is_start_length len = leb 6 len && leb len (6 + 4 * 255)

abbrev pub is_plant_length : ℕ → Bool
is_plant_length len = leb 6 len && leb len (6 + 140)

-- By its first four bytes: a start first and once, a round after it, a planted record after a round; the number of listeners just after the
-- start, and a round's struck listeners just after its record; the lengths that some record of that kind has. begun: a start was accepted;
-- first: nothing else was; pending: a round is pending; bare: nothing was accepted after its record (P41, P44, P49, Q41, Q46).
abbrev pub allowed_when : (kind : RecordKind) (begun first pending bare : Bool) (len : ℕ) → Bool
allowed_when (start K) begun first pending bare len = not begun && is_start_length len
allowed_when round begun first pending bare len = begun && eqb len 8
allowed_when plant begun first pending bare len = pending && is_plant_length len
allowed_when listeners begun first pending bare len = first && eqb len 5
allowed_when strikes begun first pending bare len = bare && eqb len 6
allowed_when other begun first pending bare len = false

-- nothing but the start was accepted
abbrev pub is_first : File → Bool
is_first F = F.setup.begun && eqb (rounds_given F) 0 && eqb F.setup.listeners 0

-- nothing was accepted after the record of the pending round
abbrev pub is_bare : Rounds → Bool
is_bare R = R.pending && not R.last.amended && eqb (length R.last.plants) 0

abbrev pub is_allowed : RecordKind → File → ℕ → Bool
is_allowed k F len = allowed_when k F.setup.begun (is_first F) F.rounds.pending (is_bare F.rounds) len

-- ---- a start, of either family: n, f (a byte each), n positions

abbrev pub head_count_in : List ℕ → ℕ
head_count_in s = get_or s 4 0

abbrev pub limit_in : List ℕ → ℕ
limit_in s = get_or s 5 0

abbrev pub position_in : List ℕ → ℕ → ℤ
position_in s j = signed_at s (6 + 4 * j)

unfoldable pub positions_fit : List ℕ → ℕ → Bool
positions_fit s zero = true
positions_fit s (suc j) = positions_fit s j && is_position (position_in s j)

-- the number of a start's first fault: its length by its own n, then size and positions (P43, Q81)
abbrev pub start_fault : Family → List ℕ → ℕ
start_fault K s =
    check (eqb (length s) (6 + 4 * head_count_in s)) refusal.bad_run_record
    (check_size K (head_count_in s) (limit_in s)
    (check (positions_fit s (head_count_in s)) refusal.position_out_of_range 0))

-- ---- a round: a mark word of struck heads, at most f of them and none at n or above

abbrev pub struck_in : List ℕ → ℕ
struck_in s = at4 s 4

unfoldable pub few_marks : (n f marks : ℕ) → Bool
few_marks n f marks = marks_below marks n && leb (sum n (λ j. bit (bit_of marks j))) f

-- of n heads with the struck limit f; rounds: how many were given before (P45, Q49, Q84)
abbrev pub round_fault : (K : Family) (n f rounds : ℕ) (s : List ℕ) → ℕ
round_fault K n f rounds s = check (few_marks n f (struck_in s)) refusal.too_many_struck (check (ltb rounds (most_rounds K)) refusal.run_has_ended 0)

-- ---- the number of listeners, from 1 to 16 (document 02, A6)

abbrev pub listener_count_in : List ℕ → ℕ
listener_count_in s = get_or s 4 0

-- the fault of a number of listeners that is not 1 to 16 (Q41)
abbrev pub listeners_fault : List ℕ → ℕ
listeners_fault s = check (leb 1 (listener_count_in s) && leb (listener_count_in s) 16) refusal.bad_run_record 0

-- ---- a round's struck listeners: a mark word, bit j for listener 32 + j, with no mark for one that does not exist

abbrev pub listeners_in : List ℕ → ℕ
listeners_in s = at2 s 4

-- of m listeners (Q45, Q47)
abbrev pub strikes_fault : ℕ → List ℕ → ℕ
strikes_fault m s = check (marks_below (listeners_in s) m) refusal.bad_run_record 0

-- ---- a planted record: sender, receiver, bytes; the sender a struck head, the receiver a head or listener that is not struck, pairs
-- rising by sender, then receiver

abbrev pub sender_in : List ℕ → ℕ
sender_in s = get_or s 4 0

abbrev pub receiver_in : List ℕ → ℕ
receiver_in s = get_or s 5 0

-- the last pair of a round: none yet, or that of the latest record, which is first in the list
abbrev pub last_pair : List Plant → Pair
last_pair [] = record { some = false; from = 0; to = 0 }
last_pair (x ∷ xs) = record { some = true; from = x.from; to = x.to }

-- whether the pair k, i may come after the last one (P46)
abbrev pub rises : (previous : Pair) (k i : ℕ) → Bool
rises previous k i = not previous.some || (ltb previous.from k || eqb previous.from k && ltb previous.to i)

-- whether bytes may be planted from k to i, by who there is, who is struck, and the pair before (P46, P50, Q50, Q52)
unfoldable pub pair_fits : (n m struck : ℕ) (previous : Pair) (k i : ℕ) → Bool
pair_fits n m struck previous k i = ltb k n && is_receiver n m i && bit_of struck k && not (bit_of struck i) && rises previous k i

-- of n heads and m listeners, in a round with the mark word struck, after the last planted pair
abbrev pub plant_fault : (n m struck : ℕ) (previous : Pair) (s : List ℕ) → ℕ
plant_fault n m struck previous s = check (pair_fits n m struck previous (sender_in s) (receiver_in s)) refusal.bad_run_record 0

-- ---- a whole record: the number of its fault, 0 for none; 13, then 1, 2 or 18, 4, 14, 26

-- by the kind of the record; every fault of form is 13 (P50b)
abbrev pub record_fault : RecordKind → File → List ℕ → ℕ
record_fault (start K) F s = start_fault K s
record_fault round F s = round_fault F.setup.family F.setup.n F.setup.f (rounds_given F) s
record_fault plant F s = plant_fault F.setup.n F.setup.listeners F.rounds.last.struck (last_pair F.rounds.last.plants) s
record_fault listeners F s = listeners_fault s
record_fault strikes F s = strikes_fault F.setup.listeners s
record_fault other F s = refusal.bad_run_record

-- the setup that a start record gives
abbrev pub setup_in : Family → List ℕ → Setup
setup_in K s = record { begun = true; family = K; n = head_count_in s; f = limit_in s; first = position_in s; listeners = 0 }

-- with listeners
abbrev pub with_listeners : Setup → ℕ → Setup
with_listeners S m = record { begun = S.begun; family = S.family; n = S.n; f = S.f; first = S.first; listeners = m }

-- the rounds played, with the last one if it is pending
abbrev pub then_played : Bool → List Round → Round → List Round
then_played true ws w = w ∷ ws
then_played false ws w = ws

-- all rounds given, the pending one too
abbrev pub all_rounds : Rounds → List Round
all_rounds R = then_played R.pending R.played R.last

-- a round more, which has the pending one played (P51, Q48)
abbrev pub with_round : Rounds → ℕ → Rounds
with_round R struck = record { played = all_rounds R; pending = true; last = record { struck = struck; amended = false; plants = [] } }

-- its struck listeners
abbrev pub with_strikes : Rounds → ℕ → Rounds
with_strikes R marks =
    record {
      played = R.played;
      pending = R.pending;
      last = record { struck = R.last.struck + 2 ^ 32 * marks; amended = true; plants = R.last.plants };
    }

-- bytes planted in the last round
abbrev pub with_plant : Rounds → Plant → Rounds
with_plant R x = record { played = R.played; pending = R.pending; last = record { struck = R.last.struck; amended = R.last.amended; plants = x ∷ R.last.plants } }

-- what a planted record plants (P47, P48)
abbrev pub plant_in : List ℕ → Plant
plant_in s = record { from = sender_in s; to = receiver_in s; bytes = drop 6 s }

-- what an accepted record changes
abbrev pub with_record : RecordKind → File → List ℕ → File
with_record (start K) F s = between (setup_in K s) no_rounds
with_record round F s = between F.setup (with_round F.rounds (struck_in s))
with_record plant F s = between F.setup (with_plant F.rounds (plant_in s))
with_record listeners F s = between (with_listeners F.setup (listener_count_in s)) F.rounds
with_record strikes F s = between F.setup (with_strikes F.rounds (listeners_in s))
with_record other F s = F

-- a fault ends the file: nothing after it is read (P69)
abbrev pub stopped : File → ℕ → File
stopped F c = record { part = []; fault = c; setup = F.setup; rounds = F.rounds }

unfoldable pub judged : RecordKind → File → List ℕ → File
judged k F s = unless_refused (stopped F) (record_fault k F s) (with_record k F s)

-- ---- byte by byte

abbrev pub with_part : File → List ℕ → File
with_part F s = record { part = s; fault = F.fault; setup = F.setup; rounds = F.rounds }

-- s: the bytes of the record so far. It is judged by its first four bytes, and again when it is whole (P41).
unfoldable pub read_on : File → List ℕ → File
read_on F s =
    cond (ltb (length s) 4) (with_part F s)
    (cond (eqb (length s) 4 && not (is_allowed (kind_in s) F (length_in s))) (stopped F refusal.bad_run_record)
    (cond (eqb (length s) (length_in s)) (judged (kind_in s) F s) (with_part F s)))

-- after a fault nothing is read
unfoldable pub step : File → ℕ → File
step F x = leaves F.fault (read_on F (F.part ++ (x ∷ []))) F

-- the state after more bytes
unfoldable pub feed : File → List ℕ → File
feed F [] = F
feed F (x ∷ xs) = feed (step F x) xs

abbrev pub read_file : List ℕ → File
read_file s = feed unread s

-- how many records were accepted: the start, the number of listeners, and of each round its own, its struck listeners and what is planted
-- in it
unfoldable pub records_of : List Round → ℕ
records_of [] = 0
records_of (w ∷ ws) = suc (bit w.amended + length w.plants + records_of ws)

unfoldable pub accepted : File → ℕ
accepted F = cond F.setup.begun (suc (bit (not (eqb F.setup.listeners 0)) + records_of (all_rounds F.rounds))) 0

-- ---- the end

-- the first fault, or 13: no start, a record cut short, or inside a phase; 0 if the file is played to its end (P42, P55, Q83)
unfoldable pub ending : File → ℕ
ending F = check (eqb F.fault 0) F.fault (check (F.setup.begun && is_empty F.part && ends_phase F.setup.family (rounds_given F)) refusal.bad_run_record 0)

-- the ring of a setup after the rounds ws, and its phase ends
abbrev pub ring_from : Setup → List Round → Ring
ring_from S ws = ring_after S.family S.n S.f S.first ws

abbrev pub ends_from : Setup → List Round → List PhaseEnd
ends_from S ws = ends_after S.family S.n S.f S.first ws

-- the phase ends played when the bytes so far are read, the latest first; none before an accepted start
abbrev pub ends_so_far : File → List PhaseEnd
ends_so_far F = cond F.setup.begun (ends_from F.setup F.rounds.played) []

-- the pending round is played if the file ends without fault (P51)
unfoldable pub rounds_played : File → List Round
rounds_played F = cond (eqb (ending F) 0) (all_rounds F.rounds) F.rounds.played

-- the phase ends played, the latest first; none before an accepted start (P72)
unfoldable pub ends_played : File → List PhaseEnd
ends_played F = cond F.setup.begun (ends_from F.setup (rounds_played F)) []
