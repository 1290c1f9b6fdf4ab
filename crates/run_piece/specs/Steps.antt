-- What one step over a piece promises to the stream over it: how many bytes it takes, and that they are read.
use Rattle.std.specs.Prelude.{◌≡◌, Bool, true, not, cond, ◌&&◌, List, [], ℕ, ◌≤◌, ◌<◌, leb, eqb, length, take}
use Rattle.fields.specs.Bytes.{at2}
use Rattle.run_spec.specs.RunFile.{length_in, is_plant_length, round_fault, plant_fault}
use Rattle.run_spec.specs.declared.Pair.{Pair}
use Rattle.texts.specs.Texts.{bytes_of}
use Rattle.run_state.specs.declared.Player.{Player}
use Rattle.run_state.specs.Memory.{Memory, with_slots}
use Rattle.run_piece.specs.declared.FeedResult.{FeedResult}
use Rattle.run_piece.specs.declared.PassResult.{PassResult}
use Rattle.run_piece.specs.Advances.{StateAt, AdvancesOnce}

-- a step that shows nothing
pub record Quiet (q : Player) (n : ℕ) (r : FeedResult) : Type 0 where
  pub player : r.player ≡ q
  pub used : r.used ≡ n
  pub none : r.text.len ≡ 0

-- bytes are taken, the first at least, and their line has room
pub record Used (bytes : List ℕ) (r : FeedResult) : Type 0 where
  pub within : r.used ≤ length bytes
  pub some : 0 < length bytes → 0 < r.used
  pub room : r.text.len ≤ 64

-- as much of the bytes as is used is read: from the memory before to that after
abbrev pub Reads : (p : Player) (bytes : List ℕ) (r : FeedResult) (carry : List ℕ) (M : Memory) (carry' : List ℕ) (M' : Memory) → Type 0
Reads p bytes r carry M carry' M' =
    (a : List ℕ) → StateAt a p carry M → AdvancesOnce a (take r.used bytes) p M r.player (bytes_of r.text) carry' M'

-- the same of bytes that show nothing and change what is planted alone
abbrev pub Passes : (p : Player) (bytes : List ℕ) (r : PassResult) (planted lengths planted' lengths' : List ℕ) → Type 0
Passes p bytes r planted lengths planted' lengths' =
    (a carry : List ℕ) (M : Memory) → StateAt a p carry (with_slots M planted lengths)
    → AdvancesOnce a (take r.used bytes) p (with_slots M planted lengths) r.player [] carry (with_slots M planted' lengths')

-- a planted record may come next: the player has no fault and no bytes of a record, and a round is pending, with these marks and this last
-- pair
pub record Waits (p : Player) (count number marks : ℕ) (previous : Pair) : Type 0 where
  pub sound : p.fault ≡ 0
  pub fresh : p.have ≡ 0
  pub pending : p.pending ≡ true
  pub n : p.n ≡ count
  pub listeners : p.listeners ≡ number
  pub struck : p.struck ≡ marks
  pub pair : p.pair ≡ previous

-- the size of the planted record that a piece begins with; 0 if it begins with no whole one
abbrev pub plant_size : List ℕ → ℕ
plant_size s = cond (eqb (at2 s 2) 0x12 && leb (length_in s) (length s) && is_plant_length (length_in s)) (length_in s) 0

-- the same, but 0 if the record has a fault: of n heads and m listeners, in a round with the mark word struck, after the last planted pair
abbrev pub plant_passed : (n m struck : ℕ) (previous : Pair) (s : List ℕ) → ℕ
plant_passed n m struck previous s = cond (eqb (plant_fault n m struck previous s) 0) (plant_size s) 0

-- whether the ring has agreed, nothing is planted in the pending round, and no record is cut or refused
abbrev pub is_settled : Player → Bool
is_settled p = p.agreed && p.pending && not p.pair.some && eqb p.have 0 && eqb p.fault 0

-- whether a piece begins with a whole round record that has no fault, in a ring that is settled
abbrev pub is_calm : Player → List ℕ → Bool
is_calm p s =
    is_settled p && leb 8 (length s) && eqb (length_in s) 8 && eqb (at2 s 2) 0x11 && eqb (round_fault p.family p.n p.f p.given s) 0
