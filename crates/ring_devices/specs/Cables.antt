-- Which cables bring what they owe (`Carries`, in Devices.antt). proofs/Cables.antt proves that these do, so that the hypothesis of
-- `DevicesConverge` can be met in every round, whoever is marked.
use Rattle.std.specs.Prelude.{◌≡◌, ◌⊎◌, true, false, List, [], ◌∷◌, ℕ, zero, suc, ◌≤◌, ◌<◌, length, take, ℤ, Ok}
use Rattle.terms.specs.declared.Family.{Family}
use Rattle.marks.specs.Marks.{bit_of}
use Rattle.frame_spec.specs.Said.{said}
use Rattle.head_spec.specs.declared.Seat.{Seat}
use Rattle.head_spec.specs.declared.Head.{Head}
use Rattle.head_spec.specs.Proper.{ProperHead}
use Rattle.head_spec.specs.Calls.{said_to, Delivery, frame_for, write_answer, write_buffer}
use Rattle.ring_spec.specs.Rounds.{Ring, most_rounds, is_receiver}
use Rattle.ring_devices.specs.Devices.{HearCall, hears_one, heard_by, brought_by, is_accepted, DeviceRound, opened_by, Carries, devices_after, DevicesWithin}

-- the bytes s come on link k, once or more
abbrev pub Comes : ℕ → List ℕ → List Delivery → Type 0
Comes k s [] = ⊥
Comes k s (d ∷ D) = ((d.link ≡ k) × (d.bytes ≡ s)) ⊎ Comes k s D

-- and nothing else that comes there is acceptable
abbrev pub Alone : (x : Seat) (k : ℕ) (s : List ℕ) (D : List Delivery) → Type 0
Alone x k s [] = Unit {0}
Alone x k s (d ∷ D) = (d.link ≡ k → is_accepted (said_to x k d.bytes) ≡ true → d.bytes ≡ s) × Alone x k s D

-- a cable that brings each unmarked head's frame to every unmarked device, at any time in the round and any number of times; what else it
-- brings on that link is refused
abbrev pub Brings : (K : Family) (n f : ℕ) (R : Ring) (w : DeviceRound) (m : ℕ) → Type 0
Brings K n f R w m =
    (i k : ℕ) → is_receiver n m i ≡ true → bit_of w.marks i ≡ false → k < n → bit_of w.marks k ≡ false
    → let s = frame_for (opened_by K n f R k) in let D = brought_by (w.calls i) in Comes k s D × Alone (opened_by K n f R i).seat k s D

-- what a head writes is acceptable in its own phase and round and on its own link alone: a frame that is late, or on another link, is
-- refused
abbrev pub OnePlace : Type 0
OnePlace =
    (h : Head) → ProperHead h → (n p r k : ℕ) → is_accepted (said n p r k (frame_for h)) ≡ true
    → (p ≡ h.seat.phase) × (r ≡ h.seat.round) × (k ≡ h.seat.number)

-- And it is acceptable there, whatever run of the ring it is of: a frame names phase, round and sender, and no run.
abbrev pub AnyRun : Type 0
AnyRun =
    (h : Head) → ProperHead h → (x : Seat) → x.n ≡ h.seat.n → x.phase ≡ h.seat.phase → x.round ≡ h.seat.round
    → is_accepted (said_to x h.seat.number (frame_for h)) ≡ true

-- the plainest: each frame once, link by link
abbrev pub each_once : (ℕ → List ℕ) → ℕ → List HearCall
each_once g zero = []
each_once g (suc k) = hears_one k (g k) ∷ each_once g k

abbrev pub plainly : (K : Family) (n f : ℕ) (R : Ring) (marks : ℕ) (left : ℕ → Head) → DeviceRound
plainly K n f R marks left = record { marks = marks; left = left; calls = λ i. each_once (λ k. frame_for (opened_by K n f R k)) n }

-- after any rounds within the limits: such a cable carries, and there is one whoever is marked
pub record CablesCarry (K : Family) (n m f : ℕ) (R : Ring) : Type 0 where
  pub brings : (w : DeviceRound) → Brings K n f R w m → Carries K n f R w m
  pub plain : (marks : ℕ) (left : ℕ → Head) → Carries K n f R (plainly K n f R marks left) m
  -- an unmarked head writes its frame, whenever in the round it is asked to and whatever it has heard till then
  pub writes : (w : DeviceRound) (k : ℕ) → k < n → bit_of w.marks k ≡ false → (C : List HearCall) (buffer : List ℕ)
      → let s = frame_for (opened_by K n f R k) in length s ≤ length buffer → let T = heard_by (opened_by K n f R k) C in
      (write_answer T buffer ≡ Ok (length s)) × (take (length s) (write_buffer T buffer) ≡ s)

abbrev pub CableThere : Type 0
CableThere =
    (K : Family) (n m f : ℕ) (v : ℕ → ℤ) (memory : ℕ → Head) (ws : List DeviceRound) → DevicesWithin K n m f v memory ws
    → length ws < most_rounds K
    → CablesCarry K n m f (devices_after K n f v memory ws)
