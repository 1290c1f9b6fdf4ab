-- Demand 3 of the blocks that C keeps: `DevicesConverge` (ring_devices), with a block for each device and C's calls on it. What an
-- integrator owes is `BlocksWithin`; docs/TRUST.md has it in words. proofs/Converges.antt proves it.
use Rattle.std.specs.Prelude.{◌≡◌, Bool, true, false, cond, List, [], ◌∷◌, ℕ, ◌≤◌, ◌<◌, ltb, length, ℤ}
use Rattle.terms.specs.Positions.{is_position}
use Rattle.terms.specs.Sizes.{ends_with, first_listener}
use Rattle.terms.specs.declared.Family.{Family}
use Rattle.marks.specs.Marks.{bit_of}
use Rattle.terms.specs.Counting.{Each, AtMost}
use Rattle.convergence.specs.Demand3.{AcceptedSize}
use Rattle.head_spec.specs.declared.Head.{Head}
use Rattle.head_spec.specs.Calls.{frame_for}
use Rattle.head_c.specs.Blocks.{IsBlock, head_of, Hears, HearsBatch}
use Rattle.head_c.specs.Events.{Call, starts, restarts, starts_listener, restarts_listener, hears, hears_batch, closes, adopts, sets, number_after, block_after}
use Rattle.ring_spec.specs.Rounds.{phase_then, round_then, most_rounds, PhaseEnd, phase_end, is_receiver, all_listeners, with_end}
use Rattle.ring_devices.specs.Promised.{Promised}
use Rattle.ring_devices.specs.Devices as device
use Rattle.ring_devices.specs.Devices.{HearCall, brought_by, first_frame}

-- ---- what is done with a block in a round, after it opened

-- A call before the one that ends the round. heard: one that hears. wrote: a write of a byte to the window (document 02, A5). offered: a
-- closing; in the last round of a phase it offers a position, and the offer ends if a later frame is accepted (A8). Calls that read a block
-- or write a frame change no block.
pub data BlockCall : Type 0 where
  heard : HearCall → BlockCall
  wrote : (at byte : ℕ) → BlockCall
  offered : BlockCall

abbrev pub call_of : BlockCall → Call
call_of (heard (device.hears_one k s)) = hears k s
call_of (heard (device.hears_batch s room)) = hears_batch s room
call_of (wrote at x) = sets at x
call_of offered = closes

-- That a step here is what the contract of C's function says. The contracts of the other functions have `block_after` in them. Those of the
-- two that hear are `Hears` and `HearsBatch`; from each of these the block after the call is the one that `block_after` gives.
pub record HearingsStep : Type 0 where
  pub one : (w : List ℕ) (k : ℕ) (s : List ℕ) (r : ℕ) (w' : List ℕ) → Hears w k s r w' → w' ≡ block_after w (hears k s)
  pub batch : (w s a : List ℕ) (c r : ℕ) (w' a' : List ℕ) (c' : ℕ) → HearsBatch w s a c r w' a' c'
      → w' ≡ block_after w (hears_batch s (length a))

unfoldable pub block_by : List ℕ → List BlockCall → List ℕ
block_by b [] = b
block_by b (c ∷ C) = block_by (block_after b (call_of c)) C

-- those that hear
unfoldable pub hearings : List BlockCall → List HearCall
hearings [] = []
hearings (heard c ∷ C) = c ∷ hearings C
hearings (wrote at x ∷ C) = hearings C
hearings (offered ∷ C) = hearings C

abbrev pub NoneCloses : List BlockCall → Type 0
NoneCloses [] = Unit {0}
NoneCloses (heard c ∷ C) = NoneCloses C
NoneCloses (wrote at x ∷ C) = NoneCloses C
NoneCloses (offered ∷ C) = ⊥

-- The call that ends a round: a collection round is closed; the last round of a phase is ended by adopting what a closing before it
-- offered.
abbrev pub end_call : Bool → Call
end_call false = closes
end_call true = adopts

-- Who ends a round by these calls on the block b: a collection round is closed once; in the last round of a phase adopting is not refused,
-- so that an offer stands then. Who does not is late.
abbrev pub EndsBy : Bool → List ℕ → List BlockCall → Type 0
EndsBy false b C = NoneCloses C
EndsBy true b C = number_after (block_by b C) adopts ≡ 0

-- ---- a round of blocks

-- As `DeviceRound`, with blocks. marks: who is struck in it, late, or blamed for a loss. left: what these are left with, any blocks at all.
-- calls: the calls on the others.
pub record BlockRound : Type 0 where
  pub marks : ℕ
  pub left : ℕ → List ℕ
  pub calls : ℕ → List BlockCall

unfoldable pub block_marks : List BlockRound → List ℕ
block_marks [] = []
block_marks (w ∷ ws) = w.marks ∷ block_marks ws

pub record BlockRing : Type 0 where
  pub phase : ℕ
  pub round : ℕ
  pub before : ℕ
  pub blocks : ℕ → List ℕ

module _ (K : Family) (n f : ℕ) where
  -- the restart of device i
  abbrev pub again_call : (i p r : ℕ) → Call
  again_call i p r = cond (ltb i first_listener) (restarts K n f i p r) (restarts_listener K n f i p r)

  module _ (R : BlockRing) where
    -- block i as the next round opens: one that was marked in the round before is restarted
    unfoldable pub opened_block : ℕ → List ℕ
    opened_block i = cond (bit_of R.before i) (block_after (R.blocks i) (again_call i R.phase R.round)) (R.blocks i)

    -- the frame that its head writes
    abbrev pub frame_of_block : ℕ → List ℕ
    frame_of_block k = frame_for (head_of (opened_block k))

    module _ (w : BlockRound) where
      -- block i when it has heard
      abbrev pub heard_block : ℕ → List ℕ
      heard_block i = block_by (opened_block i) (w.calls i)

      unfoldable pub closed_block : ℕ → List ℕ
      closed_block i = cond (bit_of w.marks i) (w.left i) (block_after (heard_block i) (end_call (ends_with K R.round)))

      -- What the cable owes, as in `Carries`: of all that comes to an unmarked device on the link of an unmarked head, the first acceptable
      -- is the frame that the head's block writes.
      abbrev pub CarriesTo : ℕ → Type 0
      CarriesTo m =
          (i k : ℕ) → is_receiver n m i ≡ true → bit_of w.marks i ≡ false → k < n → bit_of w.marks k ≡ false
          → first_frame (head_of (opened_block i)).seat k (brought_by (hearings (w.calls i))) ≡ frame_of_block k

      -- What is owed in a round to n heads and m listeners.
      pub record RoundWithin (m : ℕ) : Type 0 where
        -- at most f heads are marked
        pub few : AtMost f n (bit_of w.marks)
        pub carries : CarriesTo m
        -- every unmarked device ends the round
        pub ends : (i : ℕ) → is_receiver n m i ≡ true → bit_of w.marks i ≡ false
            → EndsBy (ends_with K R.round) (opened_block i) (w.calls i)
        -- what marked ones are left with is as long as a block
        pub left : (i : ℕ) → IsBlock (w.left i)

  unfoldable pub after_blocks : BlockRing → BlockRound → BlockRing
  after_blocks R w =
      record {
        phase = phase_then (ends_with K R.round) R.phase;
        round = round_then (ends_with K R.round);
        before = w.marks;
        blocks = closed_block R w;
      }

-- ---- a run: blocks that hold anything are started, heads at positions v; then rounds, the latest first

module _ (K : Family) (n f : ℕ) (v : ℕ → ℤ) (memory : ℕ → List ℕ) where
  unfoldable pub started_block : ℕ → List ℕ
  started_block i = block_after (memory i) (cond (ltb i first_listener) (starts K n f i (v i)) (starts_listener K n f i))

  unfoldable pub blocks_after : List BlockRound → BlockRing
  blocks_after [] = record { phase = 1; round = 0; before = 0; blocks = started_block }
  blocks_after (w ∷ ws) = after_blocks K n f (blocks_after ws) w

  -- a phase end shows the record that each block is
  abbrev pub block_heads : List BlockRound → ℕ → Head
  block_heads ws i = head_of ((blocks_after ws).blocks i)

  unfoldable pub ends_of_blocks : List BlockRound → List PhaseEnd
  ends_of_blocks [] = record { collect = 0; confess = 0; struck = all_listeners; heads = block_heads [] } ∷ []
  ends_of_blocks (w ∷ ws) =
      with_end (ends_with K (blocks_after ws).round) (phase_end K (blocks_after ws).before w.marks (block_heads (w ∷ ws))) (ends_of_blocks ws)

  abbrev pub EachWithin : ℕ → List BlockRound → Type 0
  EachWithin m [] = Unit {0}
  EachWithin m (w ∷ ws) = RoundWithin K n f (blocks_after ws) w m × EachWithin m ws

-- What is owed in a run.
pub record BlocksWithin (K : Family) (n m f : ℕ) (v : ℕ → ℤ) (memory : ℕ → List ℕ) (ws : List BlockRound) : Type 0 where
  pub most : n ≤ 32
  pub listeners : m ≤ 16
  pub size : AcceptedSize K n f
  pub range : Each n (λ i. is_position (v i) ≡ true)
  -- what is started is as long as a block
  pub blocks : (i : ℕ) → IsBlock (memory i)
  pub each : EachWithin K n f v memory m ws
  pub rounds : length ws ≤ most_rounds K

-- ---- the theorem

abbrev pub BlocksConverge : Type 0
BlocksConverge =
    (K : Family) (n m f : ℕ) (v : ℕ → ℤ) (memory : ℕ → List ℕ) (ws : List BlockRound) → BlocksWithin K n m f v memory ws
    → Promised K n m f (block_marks ws) (ends_of_blocks K n f v memory ws) (block_heads K n f v memory ws)

-- What is owed to m listeners is owed to the first k of them: so the same holds of the heads with these, and of the heads alone.
abbrev pub FewerListeners : Type 0
FewerListeners =
    (K : Family) (n m k f : ℕ) (v : ℕ → ℤ) (memory : ℕ → List ℕ) (ws : List BlockRound) → k ≤ m → BlocksWithin K n m f v memory ws
    → BlocksWithin K n k f v memory ws
