-- More devices marked than f (ring_devices' Recovery.antt), of the blocks that C keeps: what is owed is that of `BlocksWithin`, but for the limit f, which is
-- asked of the last round of a phase and of all later ones alone. Who is not marked ends its rounds, as there. proofs/Recovery.antt proves it.
use Rattle.std.specs.Prelude.{◌≡◌, true, false, List, [], ◌∷◌, ◌++◌, ℕ, ◌≤◌, length, ℤ}
use Rattle.terms.specs.Positions.{is_position}
use Rattle.terms.specs.Sizes.{ends_with}
use Rattle.terms.specs.declared.Family.{Family}
use Rattle.marks.specs.Marks.{bit_of}
use Rattle.terms.specs.Counting.{Each, AtMost}
use Rattle.convergence.specs.Demand3.{AcceptedSize}
use Rattle.head_c.specs.Blocks.{IsBlock}
use Rattle.ring_spec.specs.Rounds.{most_rounds, ends_phase, is_receiver}
use Rattle.ring_devices.specs.Recovery.{AnyTwoSince}
use Rattle.ring_blocks.specs.Blocks.{EndsBy, BlockRound, BlockRing, opened_block, CarriesTo, RoundWithin, blocks_after, ends_of_blocks}

-- `RoundWithin`, whoever is marked
pub record RoundServed (K : Family) (n f : ℕ) (R : BlockRing) (w : BlockRound) (m : ℕ) : Type 0 where
  pub carries : CarriesTo K n f R w m
  pub ends : (i : ℕ) → is_receiver n m i ≡ true → bit_of w.marks i ≡ false → EndsBy (ends_with K R.round) (opened_block K n f R i) (w.calls i)
  pub left : (i : ℕ) → IsBlock (w.left i)

module _ (K : Family) (n f : ℕ) (v : ℕ → ℤ) (memory : ℕ → List ℕ) (m : ℕ) where
  abbrev pub EachServed : List BlockRound → Type 0
  EachServed [] = Unit {0}
  EachServed (w ∷ ws) = RoundServed K n f (blocks_after K n f v memory ws) w m × EachServed ws

  -- rounds after the rounds us, within the limits
  abbrev pub LaterWithin : (ws us : List BlockRound) → Type 0
  LaterWithin [] us = Unit {0}
  LaterWithin (w ∷ ws) us = RoundWithin K n f (blocks_after K n f v memory (ws ++ us)) w m × LaterWithin ws us

-- us: the rounds of that time; w: the last round of a phase; ws: the rounds after it; the latest first
pub record BlocksOverloaded (K : Family) (n m f : ℕ) (v : ℕ → ℤ) (memory : ℕ → List ℕ) (ws : List BlockRound) (w : BlockRound) (us : List BlockRound) : Type 0 where
  pub most : n ≤ 32
  pub listeners : m ≤ 16
  pub size : AcceptedSize K n f
  pub range : Each n (λ i. is_position (v i) ≡ true)
  pub blocks : (i : ℕ) → IsBlock (memory i)
  -- any number of devices is marked, and every other one ends each round
  pub early : EachServed K n f v memory m (w ∷ us)
  -- w is the last round of a phase, and marks at most f heads
  pub ends : ends_phase K (length (w ∷ us)) ≡ true
  pub few : AtMost f n (bit_of w.marks)
  -- and so does each later one
  pub later : LaterWithin K n f v memory m ws (w ∷ us)
  pub rounds : length (ws ++ w ∷ us) ≤ most_rounds K

abbrev pub BlocksRecover : Type 0
BlocksRecover =
    (K : Family) (n m f : ℕ) (v : ℕ → ℤ) (memory : ℕ → List ℕ) (ws : List BlockRound) (w : BlockRound) (us : List BlockRound)
    → BlocksOverloaded K n m f v memory ws w us
    → AnyTwoSince K n m f (length (ends_of_blocks K n f v memory (w ∷ us))) (ends_of_blocks K n f v memory (ws ++ w ∷ us))
