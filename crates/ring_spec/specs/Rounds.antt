-- Document 01, "Strikes", for the records of a whole ring: memory lost, healed heads restarted, frames sent and delivered, rounds closed.
use Rattle.std.specs.Prelude.{Bool, true, false, not, cond, ◌&&◌, ◌||◌, List, [], ◌∷◌, ℕ, ◌+◌, ◌*◌, ◌/◌, ◌%◌, ◌^◌, eqb, ltb, leb, length, ℤ, None}
use Rattle.terms.specs.Sizes.{ends_with, first_listener}
use Rattle.terms.specs.declared.Family.{Family}
use Rattle.terms.specs.declared.Family.TheVariants.{TwoRounds, OneRound}
use Rattle.marks.specs.Marks.{bit_of}
use Rattle.terms.specs.Counting.{bit}
use Rattle.convergence.specs.Phases.{End}
use Rattle.head_spec.specs.Record.{no_entries, opened}
use Rattle.head_spec.specs.Seats.{opening_seat}
use Rattle.head_spec.specs.Calls.{started, started_listener, restarted, hear_all, frame_for, close}
use Rattle.head_spec.specs.Offers.{then_adopt}
use Rattle.head_spec.specs.declared.Head.{Head}

-- bytes planted on the link from a struck sender to a receiver: what the adversary sends there
pub record Plant : Type 0 where
  pub from : ℕ
  pub to : ℕ
  pub bytes : List ℕ

-- A round: who is struck, and what is planted. Bits 0 to 31 of the mark word are for heads, bits 32 to 47 for the listeners of these
-- numbers (document 02, A6). amended: the run file had a record of struck listeners for this round (kind 0013), whose marks are in the word.
pub record Round : Type 0 where
  pub struck : ℕ
  pub amended : Bool
  pub plants : List Plant

-- what is planted from k to i. Nothing planted is the empty frame, which its receiver refuses (P47, P63).
abbrev pub planted : List Plant → ℕ → ℕ → List ℕ
planted [] k i = []
planted (x ∷ xs) k i = cond (eqb x.from k && eqb x.to i) x.bytes (planted xs k i)

-- the record of a head or listener as long as it is struck: nothing that it holds is used (P60)
unfoldable pub lost : Head
lost = opened (opening_seat TwoRounds 0 0 0 0 0 false None) no_entries

-- the ring as the next round finds it: that round's phase and its number in the phase (0 is collection and 1 confession, and 0 the one
-- round of a phase of one round), who was struck in the round before, and the records of heads and listeners by their numbers
pub record Ring : Type 0 where
  pub phase : ℕ
  pub round : ℕ
  pub before : ℕ
  pub heads : ℕ → Head

-- a receiver ends its round by the calls that it has: it closes it, and adopts at once what that offers (document 02, A8)
abbrev pub round_ended : Head → Head
round_ended h = (then_adopt (close h).closed (close h).head).head

-- ---- a round w of n heads, in a ring of the family K

module _ (K : Family) (n f : ℕ) (R : Ring) (w : Round) where
  -- record i as the round opens: a struck one's is lost, a healed one is restarted (P36, P61, Q39)
  unfoldable pub opened_at : ℕ → Head
  opened_at i =
      cond (bit_of w.struck i) lost
      (cond (bit_of R.before i) (restarted K n f i R.phase R.round) (R.heads i))

  -- what link k carries to receiver i: what is planted there, or the frame that head k writes, the same to all (P64)
  unfoldable pub carried : ℕ → ℕ → List ℕ
  carried i k = cond (bit_of w.struck k) (planted w.plants k i) (frame_for (opened_at k))

  -- record i as the round is closed: every unstruck receiver has heard all n links, a head its own too (P09)
  unfoldable pub closed_at : ℕ → Head
  closed_at i = cond (bit_of w.struck i) lost (round_ended (hear_all (opened_at i) (carried i) n))

-- Of rounds counted from 1, round k belongs to phase `phase_of K k`, and ends it if `ends_phase K k`. The start, k = 0, counts as an end.
abbrev pub phase_of : Family → ℕ → ℕ
phase_of TwoRounds k = (k + 1) / 2
phase_of OneRound k = k

abbrev pub ends_phase : Family → ℕ → Bool
ends_phase TwoRounds k = eqb (k % 2) 0
ends_phase OneRound k = true

-- those of 65,535 phases (Q84)
abbrev pub most_rounds : Family → ℕ
most_rounds TwoRounds = 131070
most_rounds OneRound = 65535

-- after a round; is_last: it is the last of its phase
abbrev pub phase_then : (is_last : Bool) (p : ℕ) → ℕ
phase_then false p = p
phase_then true p = p + 1

abbrev pub round_then : (is_last : Bool) → ℕ
round_then false = 1
round_then true = 0

unfoldable pub after_round : (K : Family) (n f : ℕ) (R : Ring) (w : Round) → Ring
after_round K n f R w =
    record {
      phase = phase_then (ends_with K R.round) R.phase;
      round = round_then (ends_with K R.round);
      before = w.struck;
      heads = closed_at K n f R w;
    }

-- ---- a run: positions v at the start, then rounds; a list of rounds or of ends has the latest first

-- A phase end. collect, confess: the two mark words that the listing's columns of these names show, as to the heads' bits. struck: the mark
-- word of the round that ended the phase, by which receivers are sound. heads: the records of heads and listeners by their numbers.
pub record PhaseEnd : Type 0 where
  pub collect : ℕ
  pub confess : ℕ
  pub struck : ℕ
  pub heads : ℕ → Head

-- the end of a phase, by the marks of the round before its last and of its last. A phase of one round shows its own marks first, and then
-- zeros (document 02, A9; P58, Q82)
abbrev pub phase_end : (K : Family) (before struck : ℕ) (heads : ℕ → Head) → PhaseEnd
phase_end TwoRounds before struck heads = record { collect = before; confess = struck; struck = struck; heads = heads }
phase_end OneRound before struck heads = record { collect = struck; confess = 0; struck = struck; heads = heads }

-- The receivers of n heads and m listeners: heads 0 .. n - 1, and listeners 32 .. 32 + m - 1; all are below 48.
abbrev pub receivers : ℕ
receivers = 48

-- whether number i is a head or listener of n heads and m listeners: n to 31 name nobody (Q40)
abbrev pub is_receiver : (n m i : ℕ) → Bool
is_receiver n m i = ltb i n || (leb first_listener i && ltb i (first_listener + m))

-- struck by a mark word, or not there
abbrev pub is_out : (n m marks i : ℕ) → Bool
is_out n m marks i = not (is_receiver n m i) || bit_of marks i

-- A phase end as demand 3 sees it. struck: in the round that ended the phase, or not there; at: the position that each record holds (P59,
-- Q56).
abbrev pub as_end : ℕ → ℕ → PhaseEnd → End
as_end n m e = record { struck = is_out n m e.struck; at = λ i. (e.heads i).seat.position }

-- the marks of all listeners (Q58)
abbrev pub all_listeners : ℕ
all_listeners = 65535 * 2 ^ 32

-- the last round of a phase ends it
abbrev pub with_end : Bool → PhaseEnd → List PhaseEnd → List PhaseEnd
with_end false e es = es
with_end true e es = e ∷ es

module _ (K : Family) (n f : ℕ) (v : ℕ → ℤ) where
  unfoldable pub first_heads : ℕ → Head
  first_heads i = cond (ltb i first_listener) (started K n f i (v i)) (started_listener K n f i)

  -- the start, as an end: each listener counts as struck, since it holds no position yet
  abbrev pub first_end : PhaseEnd
  first_end = record { collect = 0; confess = 0; struck = all_listeners; heads = first_heads }

  -- the ring after these rounds; before the first nobody was struck (P62)
  unfoldable pub ring_after : List Round → Ring
  ring_after [] = record { phase = 1; round = 0; before = 0; heads = first_heads }
  ring_after (w ∷ ws) = after_round K n f (ring_after ws) w

  unfoldable pub ends_after : List Round → List PhaseEnd
  ends_after [] = first_end ∷ []
  ends_after (w ∷ ws) =
      with_end (ends_with K (ring_after ws).round) (phase_end K (ring_after ws).before w.struck (ring_after (w ∷ ws)).heads) (ends_after ws)

-- ---- phases since the last strike (document 02, A10)

-- of the rounds ws, how many end a phase and come after the last that marks receiver i; all that end one, if none does (Q90)
unfoldable pub ends_since : Family → ℕ → List Round → ℕ
ends_since K i [] = 0
ends_since K i (w ∷ ws) = cond (bit_of w.struck i) 0 (ends_since K i ws + bit (ends_phase K (length (w ∷ ws))))
