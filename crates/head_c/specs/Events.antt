-- Document 02, A5 and A8: which calls change what is outside the record. Events and mask: a start, a restart, a closing, an adoption and a
-- write to the window. The offer: a start, a restart, an accepted frame, a closing and an adoption. Nothing else changes them.
use Rattle.std.specs.Prelude.{◌≡◌, ◌≢◌, List, ℕ, ℤ}
use Rattle.terms.specs.Refusals as refusal
use Rattle.terms.specs.Refusals.{leaves}
use Rattle.terms.specs.declared.Family.{Family}
use Rattle.marks.specs.Marks.{bit_of}
use Rattle.head_spec.specs.Calls.{start, restart, start_listener, restart_listener, hear, said_to, answers_to, close, adopt}
use Rattle.head_spec.specs.Batch.{deliveries_of, batch_refusal}
use Rattle.head_spec.specs.Proper.{ProperHead}
use Rattle.head_spec.specs.Offers.{lapsed, lapsed_by, offered}
use Rattle.head_spec.specs.Kept.{Offer}
use Rattle.head_lent.specs.Answers.{closed_number}
use Rattle.head_window.specs.declared.Registers.{Registers}
use Rattle.head_window.specs.Window.{three, started_registers, restarted_registers, closed_registers, adopted_registers, set_refusal, set_registers}
use Rattle.head_c.specs.Blocks.{IsBlock, head_of, with_answer, registers_of, with_registers, offer_of, without_offer, with_closing, heard_in, heard_each}

-- a call that is lent the block to change; all others are lent it to read. K: the family of the ring, which starts and restarts give
pub data Call : Type 0 where
  starts : (K : Family) (n f number : ℕ) (position : ℤ) → Call
  restarts : (K : Family) (n f number phase round : ℕ) → Call
  starts_listener : (K : Family) (n f number : ℕ) → Call
  restarts_listener : (K : Family) (n f number phase round : ℕ) → Call
  hears : (link : ℕ) (frame : List ℕ) → Call
  hears_batch : (batch : List ℕ) (room : ℕ) → Call
  closes : Call
  adopts : Call
  sets : (at byte : ℕ) → Call

-- the number that it answers
abbrev pub number_after : List ℕ → Call → ℕ
number_after w (starts K n f i v) = (start (head_of w) K n f i v).refusal
number_after w (restarts K n f i p r) = (restart (head_of w) K n f i p r).refusal
number_after w (starts_listener K n f i) = (start_listener (head_of w) K n f i).refusal
number_after w (restarts_listener K n f i p r) = (restart_listener (head_of w) K n f i p r).refusal
number_after w (hears k s) = (hear (head_of w) k s).refusal
number_after w (hears_batch s room) = batch_refusal s room
number_after w closes = closed_number (close (head_of w)).closed
number_after w adopts = (adopt (head_of w) (offer_of w)).refusal
number_after w (sets at x) = set_refusal at

-- events and mask after it
abbrev pub registers_after : List ℕ → Call → Registers
registers_after w (starts K n f i v) = started_registers (start (head_of w) K n f i v).refusal (registers_of w)
registers_after w (restarts K n f i p r) = restarted_registers (restart (head_of w) K n f i p r).refusal (registers_of w)
registers_after w (starts_listener K n f i) = started_registers (start_listener (head_of w) K n f i).refusal (registers_of w)
registers_after w (restarts_listener K n f i p r) = restarted_registers (restart_listener (head_of w) K n f i p r).refusal (registers_of w)
registers_after w (hears k s) = registers_of w
registers_after w (hears_batch s room) = registers_of w
registers_after w closes = closed_registers (close (head_of w)).closed (registers_of w)
registers_after w adopts = adopted_registers (adopt (head_of w) (offer_of w)).refusal (registers_of w)
registers_after w (sets at x) = set_registers at x (registers_of w)

-- the block after it, as its contract has it
unfoldable pub block_after : List ℕ → Call → List ℕ
block_after w (starts K n f i v) =
    without_offer (number_after w (starts K n f i v)) (with_registers (registers_after w (starts K n f i v)) (with_answer w (start (head_of w) K n f i v)))
block_after w (restarts K n f i p r) =
    without_offer (number_after w (restarts K n f i p r)) (with_registers (registers_after w (restarts K n f i p r)) (with_answer w (restart (head_of w) K n f i p r)))
block_after w (starts_listener K n f i) =
    without_offer (number_after w (starts_listener K n f i)) (with_registers (registers_after w (starts_listener K n f i)) (with_answer w (start_listener (head_of w) K n f i)))
block_after w (restarts_listener K n f i p r) =
    without_offer (number_after w (restarts_listener K n f i p r))
    (with_registers (registers_after w (restarts_listener K n f i p r)) (with_answer w (restart_listener (head_of w) K n f i p r)))
block_after w (hears k s) = leaves (hear (head_of w) k s).refusal (heard_in w k (said_to (head_of w).seat k s)) w
block_after w (hears_batch s room) = leaves (batch_refusal s room) (heard_each w (deliveries_of s)) w
block_after w closes = with_registers (registers_after w closes) (with_closing (close (head_of w)).closed (close (head_of w)).head w)
block_after w adopts =
    without_offer (number_after w adopts) (with_registers (registers_after w adopts) (with_answer w (adopt (head_of w) (offer_of w))))
block_after w (sets at x) = with_registers (registers_after w (sets at x)) w

-- the offer after it: a start, a restart, an accepted frame and an adoption end it, closing the last round of a phase makes it
abbrev pub offer_after : List ℕ → Call → Offer
offer_after w (starts K n f i v) = lapsed (number_after w (starts K n f i v)) (offer_of w)
offer_after w (restarts K n f i p r) = lapsed (number_after w (restarts K n f i p r)) (offer_of w)
offer_after w (starts_listener K n f i) = lapsed (number_after w (starts_listener K n f i)) (offer_of w)
offer_after w (restarts_listener K n f i p r) = lapsed (number_after w (restarts_listener K n f i p r)) (offer_of w)
offer_after w (hears k s) = lapsed (number_after w (hears k s)) (offer_of w)
offer_after w (hears_batch s room) = leaves (batch_refusal s room) (lapsed_by (answers_to (head_of w) (deliveries_of s)) (offer_of w)) (offer_of w)
offer_after w closes = offered (close (head_of w)).closed (offer_of w)
offer_after w adopts = lapsed (number_after w adopts) (offer_of w)
offer_after w (sets at x) = offer_of w

-- the theorem: of any block, after any call, events and mask are these; and the offer, if the record is a proper one: its links have words
-- in the block, and what it offers fits its words (Q27, Q66)
abbrev pub OnlyTheseChange : Type 0
OnlyTheseChange =
    (w : List ℕ) (c : Call) → IsBlock w
    → (registers_of (block_after w c) ≡ registers_after w c) × (ProperHead (head_of w) → offer_of (block_after w c) ≡ offer_after w c)

-- demand 1 of these calls: one that is refused changes nothing but the events, and those only if it is refused 25 (Q25)
abbrev pub RefusedLeaves : Type 0
RefusedLeaves =
    (w : List ℕ) (c : Call) → number_after w c ≢ 0
    → (block_after w c ≡ with_registers (registers_after w c) w) × (number_after w c ≢ refusal.too_few_trusted → block_after w c ≡ w)

-- ---- a strike takes the block, and may leave anything beside the head: both bytes are written anew

-- after the two writes: all three events are cleared, and the mask is set
abbrev pub window_reset : List ℕ → ℕ → List ℕ
window_reset w mask = block_after (block_after w (sets 10 7)) (sets 11 mask)

-- a restart, of a head or a listener
abbrev pub Restarts : Call → Type 0
Restarts (starts K n f i v) = ⊥
Restarts (restarts K n f i p r) = Unit {0}
Restarts (starts_listener K n f i) = ⊥
Restarts (restarts_listener K n f i p r) = Unit {0}
Restarts (hears k s) = ⊥
Restarts (hears_batch s room) = ⊥
Restarts closes = ⊥
Restarts adopts = ⊥
Restarts (sets at x) = ⊥

-- what stands beside the head then, if events and the mask were anything
pub record ResetsWindow (w : List ℕ) (mask : ℕ) : Type 0 where
  pub registers : registers_of (window_reset w mask) ≡ record { events = 0; mask = three (bit_of mask) }
  -- the record is as it was
  pub head : head_of (window_reset w mask) ≡ head_of w
  -- a restart that is taken then leaves its own event alone
  pub restarted : (c : Call) → Restarts c → number_after (window_reset w mask) c ≡ 0
      → registers_of (block_after (window_reset w mask) c) ≡ record { events = 4; mask = three (bit_of mask) }

abbrev pub AfterStrike : Type 0
AfterStrike = (w : List ℕ) (mask : ℕ) → IsBlock w → ResetsWindow w mask
