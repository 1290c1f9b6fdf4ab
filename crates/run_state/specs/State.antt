-- What the player and the memory lent to it hold of the file read so far.
use Rattle.std.specs.Prelude.{true, List, ◌≡◌, ℕ, ◌≤◌, ◌<◌, length, get_or, ℤ, pos, Some}
use Rattle.terms.specs.Entry.{Entry}
use Rattle.terms.specs.Counting.{Each}
use Rattle.ring_spec.specs.Rounds.{Ring, planted, receivers}
use Rattle.ring_spec.specs.Agreed.{agreed_on, is_agreed}
use Rattle.run_spec.specs.RunFile.{File, rounds_given, last_pair, ring_from, ends_from}
use Rattle.frame_slots.specs.Slots.{planted_in, slot_size}
use Rattle.run_state.specs.declared.Player.{Player}
use Rattle.run_state.specs.Memory.{Memory}
use Rattle.run_state.specs.Heads.{HeadsOf}
use Rattle.run_state.specs.Counts.{CountsOf}

-- the ring when the rounds before the pending one are played
abbrev pub ring_before : File → Ring
ring_before F = ring_from F.setup F.rounds.played

-- the position on which it has agreed then; null if it has not
abbrev pub agreed_before : File → Entry
agreed_before F = agreed_on F.setup.n F.setup.listeners (ends_from F.setup F.rounds.played)

-- in a ring that has agreed every position is the one on which it did
abbrev pub Level : Entry → List ℤ → Type 0
Level agreed positions = (u : ℤ) → agreed ≡ Some u → Each receivers (λ i. get_or positions i (pos 0) ≡ u)

-- the player's numbers are those of the file F; since: the counts when the rounds before the pending one are played (document 02, A10)
pub record PlayerOf (p : Player) (F : File) : Type 0 where
  pub begun : F.setup.begun ≡ p.begun
  pub family : F.setup.family ≡ p.family
  pub n : F.setup.n ≡ p.n
  pub f : F.setup.f ≡ p.f
  pub listeners : F.setup.listeners ≡ p.listeners
  pub given : rounds_given F ≡ p.given
  pub pending : F.rounds.pending ≡ p.pending
  pub before : (ring_before F).before ≡ p.before
  pub struck : F.rounds.last.struck ≡ p.struck
  pub amended : F.rounds.last.amended ≡ p.amended
  pub pair : last_pair F.rounds.last.plants ≡ p.pair
  pub fault : F.fault ≡ p.fault
  pub agreed : is_agreed (agreed_before F) ≡ p.agreed
  pub since : CountsOf F.setup.family F.rounds.played p.since

-- The memory holds what the records of the heads hold, and what is planted in the pending round. Free, since nothing reads it: the numbers
-- of receivers that were struck or that the ring does not have, those of listeners before their first phase end, the lists in round 0 or
-- once the ring has agreed, the slots if no round is pending, those of senders that the ring does not have, and the bytes of a slot past
-- its length (D12a).
pub record MemoryOf (F : File) (M : Memory) : Type 0 where
  pub keeps : F.setup.begun ≡ true → HeadsOf F.setup.n F.setup.listeners (agreed_before F) (ring_before F) M
  pub level : F.setup.begun ≡ true → Level (agreed_before F) M.positions
  pub slots : F.rounds.pending ≡ true → (k i : ℕ) → k < 32 → k < F.setup.n → i < receivers
      → planted_in M.planted M.lengths k i ≡ planted F.rounds.last.plants k i
  pub short : F.rounds.pending ≡ true → (k i : ℕ) → length (planted F.rounds.last.plants k i) ≤ slot_size
