-- No call that a round asks for is refused, and what `RoundWithin` asks of a cable can be met, whoever is marked: by one that brings each
-- unmarked head's frame, with whatever else is refused on that link. As ring_devices' Devices.antt and Cables.antt have it, of blocks.
-- proofs/Cables.antt proves it.
use Rattle.std.specs.Prelude.{◌≡◌, Bool, true, false, List, [], ◌∷◌, ℕ, ◌≤◌, ◌<◌, length, take, ℤ, Ok}
use Rattle.terms.specs.Positions.{is_position}
use Rattle.terms.specs.Sizes.{ends_with}
use Rattle.terms.specs.declared.Family.{Family}
use Rattle.marks.specs.Marks.{bit_of}
use Rattle.terms.specs.Counting.{Each, AtMost}
use Rattle.convergence.specs.Demand3.{AcceptedSize}
use Rattle.frame_spec.specs.Length.{Written}
use Rattle.head_spec.specs.Calls.{write_answer, write_buffer}
use Rattle.head_c.specs.Blocks.{IsBlock, head_of}
use Rattle.head_c.specs.Events.{closes, adopts, number_after, block_after}
use Rattle.ring_spec.specs.Rounds.{most_rounds, is_receiver}
use Rattle.ring_devices.specs.Devices.{HearCall, brought_by}
use Rattle.ring_devices.specs.Cables.{Comes, Alone, each_once}
use Rattle.ring_blocks.specs.Blocks.{BlockCall, heard, offered, block_by, hearings, NoneCloses, BlockRound, BlockRing, again_call, opened_block, frame_of_block, heard_block, CarriesTo, RoundWithin, blocks_after, BlocksWithin}

-- ---- calls that are not refused: each answers 0

pub record NoBlockRefused (K : Family) (n m f : ℕ) (R : BlockRing) (w : BlockRound) : Type 0 where
  -- a restart, of any device that is there
  pub restarted : (i : ℕ) → is_receiver n m i ≡ true → number_after (R.blocks i) (again_call K n f i R.phase R.round) ≡ 0
  -- of an unmarked one a closing when all is heard, and in the last round of a phase adopting after it
  pub closed : (i : ℕ) → is_receiver n m i ≡ true → bit_of w.marks i ≡ false → let b = heard_block K n f R w i in
      (number_after b closes ≡ 0) × (ends_with K R.round ≡ true → number_after (block_after b closes) adopts ≡ 0)

abbrev pub BlocksUnrefused : Type 0
BlocksUnrefused =
    (K : Family) (n m f : ℕ) (v : ℕ → ℤ) (memory : ℕ → List ℕ) (w : BlockRound) (ws : List BlockRound)
    → BlocksWithin K n m f v memory (w ∷ ws)
    → NoBlockRefused K n m f (blocks_after K n f v memory ws) w

-- ---- which cables carry

module _ (K : Family) (n f : ℕ) (R : BlockRing) where
  -- each unmarked head's frame comes once or more to every unmarked device, and nothing else that comes on its link is acceptable
  abbrev pub BringsTo : BlockRound → ℕ → Type 0
  BringsTo w m =
      (i k : ℕ) → is_receiver n m i ≡ true → bit_of w.marks i ≡ false → k < n → bit_of w.marks k ≡ false
      → let s = frame_of_block K n f R k in let D = brought_by (hearings (w.calls i)) in
      Comes k s D × Alone (head_of (opened_block K n f R i)).seat k s D

  -- these calls, and in the last round of a phase a closing
  abbrev pub then_offered : Bool → List HearCall → List BlockCall
  then_offered false [] = []
  then_offered true [] = offered ∷ []
  then_offered final (c ∷ C) = heard c ∷ then_offered final C

  -- the plainest round: each frame once, link by link
  abbrev pub plainly_to : ℕ → (ℕ → List ℕ) → BlockRound
  plainly_to marks left =
      record { marks = marks; left = left; calls = λ i. then_offered (ends_with K R.round) (each_once (frame_of_block K n f R) n) }

-- After any rounds within the limits.
pub record CablesCarryTo (K : Family) (n m f : ℕ) (R : BlockRing) : Type 0 where
  -- such a cable carries
  pub brings : (w : BlockRound) → BringsTo K n f R w m → CarriesTo K n f R w m
  -- the plainest round is within the limits, whoever is marked, up to f heads, and whatever these are left with
  pub plain : (marks : ℕ) (left : ℕ → List ℕ) → AtMost f n (bit_of marks) → ((i : ℕ) → IsBlock (left i))
      → RoundWithin K n f R (plainly_to K n f R marks left) m
  -- an unmarked head writes its frame, whenever in the round it is asked to and whatever was done with its block till then, but that a
  -- collection round is not closed
  pub writes : (w : BlockRound) (k : ℕ) → k < n → bit_of w.marks k ≡ false → (C : List BlockCall)
      → (ends_with K R.round ≡ false → NoneCloses C)
      → (buffer : List ℕ) → let s = frame_of_block K n f R k in length s ≤ length buffer
      → let h = head_of (block_by (opened_block K n f R k) C) in
      (write_answer h buffer ≡ Ok (length s)) × (take (length s) (write_buffer h buffer) ≡ s)

abbrev pub BlockCableThere : Type 0
BlockCableThere =
    (K : Family) (n m f : ℕ) (v : ℕ → ℤ) (memory : ℕ → List ℕ) (ws : List BlockRound) → BlocksWithin K n m f v memory ws
    → length ws < most_rounds K
    → CablesCarryTo K n m f (blocks_after K n f v memory ws)

-- ---- so there is a run within the limits for whatever is done to a ring

-- of a round: who is marked, and what these are left with
pub record Strike : Type 0 where
  pub marks : ℕ
  pub left : ℕ → List ℕ

abbrev pub FewMarked : ℕ → ℕ → List Strike → Type 0
FewMarked n f [] = Unit {0}
FewMarked n f (x ∷ xs) = AtMost f n (bit_of x.marks) × ((i : ℕ) → IsBlock (x.left i)) × FewMarked n f xs

module _ (K : Family) (n f : ℕ) (v : ℕ → ℤ) (memory : ℕ → List ℕ) where
  unfoldable pub plain_run : List Strike → List BlockRound
  plain_run [] = []
  plain_run (x ∷ xs) = plainly_to K n f (blocks_after K n f v memory (plain_run xs)) x.marks x.left ∷ plain_run xs

abbrev pub RunThere : Type 0
RunThere =
    (K : Family) (n m f : ℕ) (v : ℕ → ℤ) (memory : ℕ → List ℕ) (xs : List Strike) → n ≤ 32 → m ≤ 16 → AcceptedSize K n f
    → Each n (λ i. is_position (v i) ≡ true)
    → ((i : ℕ) → IsBlock (memory i)) → FewMarked n f xs → length xs ≤ most_rounds K
    → BlocksWithin K n m f v memory (plain_run K n f v memory xs)
