-- More devices marked than f (ring_spec's Recovery.antt, of what ships). For some time any number of heads may be marked in a round: struck, late, or
-- blamed for a loss. Who is not marked is served by the cable as in `DevicesConverge`, and ends the round: its closing is not refused, or else it is
-- late and marked. Once a phase has ended with at most f heads marked in its last round, and as long as no later round marks more, demand 3 holds of
-- all phase ends from that one on. proofs/Recovery.antt proves it.
use Rattle.std.specs.Prelude.{◌≡◌, true, false, List, [], ◌∷◌, ◌++◌, ℕ, ◌+◌, ◌≤◌, length, get_or, ℤ}
use Rattle.terms.specs.Positions.{is_position}
use Rattle.terms.specs.declared.Family.{Family}
use Rattle.marks.specs.Marks.{bit_of}
use Rattle.terms.specs.Counting.{Each, AtMost}
use Rattle.convergence.specs.Demand3.{Demand3, AcceptedSize, Halves}
use Rattle.head_spec.specs.declared.Head.{Head}
use Rattle.head_spec.specs.Calls.{close}
use Rattle.ring_spec.specs.Rounds.{Ring, most_rounds, ends_phase, PhaseEnd, receivers, is_receiver, as_end}
use Rattle.ring_spec.specs.Converges.{no_end}
use Rattle.ring_spec.specs.Recovery.{IsClosed}
use Rattle.ring_devices.specs.Devices.{heard_by, DeviceRound, opened_by, Carries, devices_after, ends_of_devices}

-- every device that is there and not marked ends the round
abbrev pub EndsIt : (K : Family) (n f : ℕ) (R : Ring) (w : DeviceRound) (m : ℕ) → Type 0
EndsIt K n f R w m =
    (i : ℕ) → is_receiver n m i ≡ true → bit_of w.marks i ≡ false → IsClosed (close (heard_by (opened_by K n f R i) (w.calls i))).closed

module _ (K : Family) (n f : ℕ) (v : ℕ → ℤ) (memory : ℕ → Head) (m : ℕ) where
  -- rounds that mark any number
  abbrev pub RoundsServed : List DeviceRound → Type 0
  RoundsServed [] = Unit {0}
  RoundsServed (w ∷ ws) = let R = devices_after K n f v memory ws in Carries K n f R w m × EndsIt K n f R w m × RoundsServed ws

  -- later ones, after the rounds us: at most f heads each, as in `RoundsWithin`
  abbrev pub LaterWithin : (ws us : List DeviceRound) → Type 0
  LaterWithin [] us = Unit {0}
  LaterWithin (w ∷ ws) us = AtMost f n (bit_of w.marks) × Carries K n f (devices_after K n f v memory (ws ++ us)) w m × LaterWithin ws us

-- us: the rounds of that time; w: the last round of a phase; ws: the rounds after it; the latest first
pub record DevicesOverloaded (K : Family) (n m f : ℕ) (v : ℕ → ℤ) (memory : ℕ → Head) (ws : List DeviceRound) (w : DeviceRound) (us : List DeviceRound) : Type 0 where
  pub most : n ≤ 32
  pub listeners : m ≤ 16
  pub size : AcceptedSize K n f
  pub range : Each n (λ i. is_position (v i) ≡ true)
  pub early : RoundsServed K n f v memory m (w ∷ us)
  pub ends : ends_phase K (length (w ∷ us)) ≡ true
  pub few : AtMost f n (bit_of w.marks)
  pub later : LaterWithin K n f v memory m ws (w ∷ us)
  pub rounds : length (ws ++ w ∷ us) ≤ most_rounds K

-- of a list of ends, the latest first, of which so many are early: any two of the others and of the last early one
abbrev pub AnyTwoSince : (K : Family) (n m f : ℕ) (early : ℕ) (es : List PhaseEnd) → Type 0
AnyTwoSince K n m f early es =
    (i k : ℕ) → i + k + early ≤ length es → Demand3 receivers (Halves K n f) k (as_end n m (get_or es (i + k) no_end)) (as_end n m (get_or es i no_end))

abbrev pub DevicesRecover : Type 0
DevicesRecover =
    (K : Family) (n m f : ℕ) (v : ℕ → ℤ) (memory : ℕ → Head) (ws : List DeviceRound) (w : DeviceRound) (us : List DeviceRound)
    → DevicesOverloaded K n m f v memory ws w us
    → AnyTwoSince K n m f (length (ends_of_devices K n f v memory (w ∷ us))) (ends_of_devices K n f v memory (ws ++ w ∷ us))
