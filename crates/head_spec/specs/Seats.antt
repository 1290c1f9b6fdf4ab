-- The seats that calls make: by a start, a restart and the closing of each round. Calls make a seat here and nowhere else.
use Rattle.std.specs.Prelude.{Bool, true, false, cond, ℕ, zero, suc, ◌+◌, min, leb, None, Some}
use Rattle.terms.specs.Entry.{Entry}
use Rattle.terms.specs.declared.Family.{Family}
use Rattle.terms.specs.declared.Family.TheVariants.{TwoRounds, OneRound}
use Rattle.settle_midpoint.specs.declared.Kept.{Kept}
use Rattle.head_spec.specs.Kept.{LastKept}
use Rattle.head_spec.specs.declared.Seat.{Seat}

-- the family that a plain number says: 0 is a ring of two rounds (Q75)
abbrev pub family_in : ℕ → Family
family_in zero = TwoRounds
family_in (suc b) = OneRound

-- A seat with which a start or a restart opens, in round r of phase p: no phase end is passed yet, and none is counted.
abbrev pub opening_seat : (K : Family) (n f number phase round : ℕ) (healed : Bool) (position : Entry) → Seat
opening_seat K n f i p r healed e =
    record {
      family = K;
      n = n;
      f = f;
      number = i;
      phase = p;
      round = r;
      healed = healed;
      ended = false;
      position = e;
      kept = None;
      since = 0;
    }

-- a start: phase 1 opens. A listener holds no position before its first phase end (document 02, A6; Q34).
abbrev pub first_seat : (K : Family) (n f number : ℕ) (position : Entry) → Seat
first_seat K n f i e = opening_seat K n f i 1 0 false e

-- a restart, in round r of phase p: the head is healed, with no position and no kept range (document 02, A2; Q11)
abbrev pub healed_seat : (K : Family) (n f number phase round : ℕ) → Seat
healed_seat K n f i p r = opening_seat K n f i p r true None

-- A seat after the end of a round: the ring and the number stay, and a head that was healed is healthy.
abbrev pub later_seat : Seat → (phase round : ℕ) (ended : Bool) (position : Entry) (kept : LastKept) (since : ℕ) → Seat
later_seat s p r ended e k c =
    record {
      family = s.family;
      n = s.n;
      f = s.f;
      number = s.number;
      phase = p;
      round = r;
      healed = false;
      ended = ended;
      position = e;
      kept = k;
      since = c;
    }

-- the collection round is closed (P39)
abbrev pub confession_seat : Seat → Seat
confession_seat s = later_seat s s.phase 1 false s.position s.kept s.since

-- phase ends are counted up to here, where the count rests (document 02, A10; Q89)
abbrev pub most_counted : ℕ
most_counted = 255

abbrev pub is_last : Seat → Bool
is_last s = leb 65535 s.phase

-- the phase has ended and settled k, and one phase end more is counted; after phase 65,535 phase and round stay, and the head has ended (so
-- bit 2 of its window stays: document 02, A5; P33, P39, Q77, Q89)
abbrev pub next_seat : Seat → Kept → Seat
next_seat s k =
    later_seat s (cond (is_last s) s.phase (s.phase + 1)) (cond (is_last s) s.round 0) (is_last s) (Some k.position) (Some k)
    (min most_counted (s.since + 1))
