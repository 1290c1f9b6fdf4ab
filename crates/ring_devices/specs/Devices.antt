-- Demand 3 of what ships: devices, each a record that calls drive. The cable may bring frames in any order, twice, damaged or forged. But the
-- first acceptable one on the link of each unmarked head is that head's own (`Carries`). Document 01, "Strikes" and the rounds, by calls.
-- proofs/Devices.antt proves it.
use Rattle.std.specs.Prelude.{◌≡◌, Bool, true, false, cond, ◌&&◌, List, [], ◌∷◌, ◌++◌, ℕ, ◌≤◌, ◌<◌, eqb, ltb, length, ℤ}
use Rattle.terms.specs.Refusals.{leaves}
use Rattle.terms.specs.Positions.{is_position}
use Rattle.terms.specs.Sizes.{ends_with, first_listener}
use Rattle.terms.specs.declared.Family.{Family}
use Rattle.marks.specs.Marks.{bit_of}
use Rattle.terms.specs.Counting.{Each, AtMost}
use Rattle.convergence.specs.Demand3.{AcceptedSize}
use Rattle.frame_spec.specs.Said.{Meaning, refused, collected, listed, confessed}
use Rattle.settle_midpoint.specs.declared.Kept.{Kept}
use Rattle.head_spec.specs.declared.Seat.{Seat}
use Rattle.head_spec.specs.declared.Head.{Head}
use Rattle.head_spec.specs.declared.Answer.{Answer}
use Rattle.head_spec.specs.declared.Closed.{Closed}
use Rattle.head_spec.specs.Calls.{start, start_listener, restart, restart_listener, said_to, hear, Delivery, frame_for, close}
use Rattle.head_spec.specs.Batch.{deliveries_of, batch_refusal, hear_batch}
use Rattle.ring_spec.specs.Rounds.{Ring, round_ended, phase_then, round_then, most_rounds, PhaseEnd, phase_end, is_receiver, all_listeners, with_end}
use Rattle.ring_devices.specs.Promised.{Promised}

-- ---- what a device hears in a round

-- a call that hears: bytes on a link, or a batch with room for so many answers
pub data HearCall : Type 0 where
  hears_one : ℕ → List ℕ → HearCall
  hears_batch : List ℕ → ℕ → HearCall

unfoldable pub heard_by : Head → List HearCall → Head
heard_by h [] = h
heard_by h (hears_one k s ∷ C) = heard_by (hear h k s).head C
heard_by h (hears_batch s room ∷ C) = heard_by (hear_batch h s room).head C

-- what those calls deliver, in order; a batch that is refused delivers nothing
unfoldable pub brought_by : List HearCall → List Delivery
brought_by [] = []
brought_by (hears_one k s ∷ C) = record { link = k; bytes = s } ∷ brought_by C
brought_by (hears_batch s room ∷ C) = leaves (batch_refusal s room) (deliveries_of s) [] ++ brought_by C

abbrev pub is_accepted : Meaning → Bool
is_accepted (refused c) = false
is_accepted (collected e) = true
is_accepted (listed t) = true
is_accepted confessed = true

-- "Each link gives its first acceptable frame of a round, or nothing": its bytes, to a head in this seat; nothing is the empty frame, which
-- is never acceptable
unfoldable pub first_frame : Seat → ℕ → List Delivery → List ℕ
first_frame x k [] = []
first_frame x k (d ∷ D) = cond (eqb d.link k && is_accepted (said_to x k d.bytes)) d.bytes (first_frame x k D)

-- ---- a round of devices

-- marks: who is struck in it, does not end it, being late (document 02, A8), or is blamed for a loss; heads and listeners by their bits as in
-- `Round`. left: what these are left with, any records at all. calls: how each of the others hears, with any bytes, on any links, in any
-- order.
pub record DeviceRound : Type 0 where
  pub marks : ℕ
  pub left : ℕ → Head
  pub calls : ℕ → List HearCall

unfoldable pub device_marks : List DeviceRound → List ℕ
device_marks [] = []
device_marks (w ∷ ws) = w.marks ∷ device_marks ws

module _ (K : Family) (n f : ℕ) where
  -- device i is restarted, whatever it holds
  abbrev pub again : (h : Head) (i p r : ℕ) → Answer
  again h i p r = cond (ltb i first_listener) (restart h K n f i p r) (restart_listener h K n f i p r)

  -- the record of device i as the next round opens: one that was marked in the round before is restarted
  unfoldable pub opened_by : Ring → ℕ → Head
  opened_by R i = cond (bit_of R.before i) (again (R.heads i) i R.phase R.round).head (R.heads i)

  module _ (R : Ring) (w : DeviceRound) where
    -- it hears what is brought to it, closes the round, and adopts what that offers
    unfoldable pub closed_by : ℕ → Head
    closed_by i = cond (bit_of w.marks i) (w.left i) (round_ended (heard_by (opened_by R i) (w.calls i)))

    -- What the cable owes. For each of n heads and m listeners that is not marked, and each head that is not marked: of all that comes to
    -- the one on the link of the other, the first acceptable is the frame that the other's record writes. Links of marked heads, and those
    -- that no head has, bring anything.
    unfoldable pub Carries : ℕ → Type 0
    Carries m =
        (i k : ℕ) → is_receiver n m i ≡ true → bit_of w.marks i ≡ false → k < n → bit_of w.marks k ≡ false
        → first_frame (opened_by R i).seat k (brought_by (w.calls i)) ≡ frame_for (opened_by R k)

  unfoldable pub after_devices : Ring → DeviceRound → Ring
  after_devices R w =
      record {
        phase = phase_then (ends_with K R.round) R.phase;
        round = round_then (ends_with K R.round);
        before = w.marks;
        heads = closed_by R w;
      }

-- ---- a run: devices that hold anything are started, heads at positions v; then rounds, the latest first

module _ (K : Family) (n f : ℕ) (v : ℕ → ℤ) (memory : ℕ → Head) where
  unfoldable pub started_by : ℕ → Head
  started_by i = (cond (ltb i first_listener) (start (memory i) K n f i (v i)) (start_listener (memory i) K n f i)).head

  unfoldable pub devices_after : List DeviceRound → Ring
  devices_after [] = record { phase = 1; round = 0; before = 0; heads = started_by }
  devices_after (w ∷ ws) = after_devices K n f (devices_after ws) w

  unfoldable pub ends_of_devices : List DeviceRound → List PhaseEnd
  ends_of_devices [] = record { collect = 0; confess = 0; struck = all_listeners; heads = started_by } ∷ []
  ends_of_devices (w ∷ ws) =
      with_end (ends_with K (devices_after ws).round) (phase_end K (devices_after ws).before w.marks (devices_after (w ∷ ws)).heads)
      (ends_of_devices ws)

  -- in every round at most f heads are marked, and the cable brings what it owes
  abbrev pub RoundsWithin : ℕ → List DeviceRound → Type 0
  RoundsWithin m [] = Unit {0}
  RoundsWithin m (w ∷ ws) = AtMost f n (bit_of w.marks) × Carries K n f (devices_after ws) w m × RoundsWithin m ws

-- n heads and m listeners of the family K within their limits, as in `RingWithin`
pub record DevicesWithin (K : Family) (n m f : ℕ) (v : ℕ → ℤ) (memory : ℕ → Head) (ws : List DeviceRound) : Type 0 where
  pub most : n ≤ 32
  pub listeners : m ≤ 16
  pub size : AcceptedSize K n f
  pub range : Each n (λ i. is_position (v i) ≡ true)
  pub each : RoundsWithin K n f v memory m ws
  pub rounds : length ws ≤ most_rounds K

-- ---- the theorem

abbrev pub DevicesConverge : Type 0
DevicesConverge =
    (K : Family) (n m f : ℕ) (v : ℕ → ℤ) (memory : ℕ → Head) (ws : List DeviceRound) → DevicesWithin K n m f v memory ws
    → Promised K n m f (device_marks ws) (ends_of_devices K n f v memory ws) (devices_after K n f v memory ws).heads

-- ---- and no call that a round asks for is refused

-- what closing answers; is_last: the round is the last of its phase. The list stands, or a position is offered
abbrev pub ClosesUnrefused : (is_last : Bool) (c : Closed) → Type 0
ClosesUnrefused false c = c ≡ Closed.Listed
ClosesUnrefused true c = (k : Kept) × (c ≡ Closed.Settled k)

pub record NoneRefused (K : Family) (n m f : ℕ) (R : Ring) (w : DeviceRound) : Type 0 where
  -- a restart, of any device that is there
  pub restarts : (i : ℕ) → is_receiver n m i ≡ true → (again K n f (R.heads i) i R.phase R.round).refusal ≡ 0
  -- the frame of an unmarked head is acceptable to every unmarked device
  pub frames : (i k : ℕ) → is_receiver n m i ≡ true → bit_of w.marks i ≡ false → k < n → bit_of w.marks k ≡ false
      → is_accepted (said_to (opened_by K n f R i).seat k (frame_for (opened_by K n f R k))) ≡ true
  -- and each of these closes
  pub closes : (i : ℕ) → is_receiver n m i ≡ true → bit_of w.marks i ≡ false
      → ClosesUnrefused (ends_with K R.round) (close (heard_by (opened_by K n f R i) (w.calls i))).closed

abbrev pub DevicesUnrefused : Type 0
DevicesUnrefused =
    (K : Family) (n m f : ℕ) (v : ℕ → ℤ) (memory : ℕ → Head) (w : DeviceRound) (ws : List DeviceRound)
    → DevicesWithin K n m f v memory (w ∷ ws)
    → NoneRefused K n m f (devices_after K n f v memory ws) w
