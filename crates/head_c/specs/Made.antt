-- The blocks that C's calls make: an accepted start or restart makes one, of whatever block there was, and any call on it makes another,
-- refused or not. Each is a record that calls by value can reach (`MadeReachable`), so all that head_spec says of those holds of C's heads:
-- its Demand2 and its Ranges. Words 18 to 22 are an offer in the sense of `Offering` (`MadeOffers`), so closing and adopting are the old
-- closing (`MadeCloses`; document 02, A8).
use Rattle.std.specs.Prelude.{◌≡◌, List, ℕ, None}
use Rattle.settle_midpoint.specs.declared.Kept.{Kept}
use Rattle.frame_spec.specs.Proper.{AllBytes}
use Rattle.head_spec.specs.Kept.{LastKept, Offer}
use Rattle.head_spec.specs.declared.Closed.{Closed}
use Rattle.head_spec.specs.Calls.{close, end_round}
use Rattle.head_spec.specs.Demand2.{Reachable}
use Rattle.head_spec.specs.Offers.{Offering}
use Rattle.head_window.specs.Window.{phase_over, with_event}
use Rattle.head_c.specs.Blocks.{IsBlock, head_of, registers_of, offer_of}
use Rattle.head_c.specs.Events.{Call, starts, restarts, starts_listener, restarts_listener, hears, hears_batch, closes, adopts, sets, number_after, block_after}

-- a start or a restart
abbrev pub Opens : Call → Type 0
Opens (starts K n f i v) = Unit {0}
Opens (restarts K n f i p r) = Unit {0}
Opens (starts_listener K n f i) = Unit {0}
Opens (restarts_listener K n f i p r) = Unit {0}
Opens (hears k s) = ⊥
Opens (hears_batch s room) = ⊥
Opens closes = ⊥
Opens adopts = ⊥
Opens (sets at x) = ⊥

-- what is lent as bytes are bytes
abbrev pub Bytes : Call → Type 0
Bytes (starts K n f i v) = Unit {0}
Bytes (restarts K n f i p r) = Unit {0}
Bytes (starts_listener K n f i) = Unit {0}
Bytes (restarts_listener K n f i p r) = Unit {0}
Bytes (hears k s) = AllBytes s
Bytes (hears_batch s room) = AllBytes s
Bytes closes = Unit {0}
Bytes adopts = Unit {0}
Bytes (sets at x) = Unit {0}

pub data Made : List ℕ → Type 0 where
  opens : (w : List ℕ) (c : Call) → IsBlock w → Opens c → number_after w c ≡ 0 → Made (block_after w c)
  calls : (w : List ℕ) (c : Call) → IsBlock w → Bytes c → Made w → Made (block_after w c)

-- the record of a block that calls made is one that calls by value can reach (D11)
abbrev pub MadeReachable : Type 0
MadeReachable = (w : List ℕ) → Made w → Reachable (head_of w)

-- the record of such a block and its offer are those that calls by value make; x: what its phase ends passed on last
abbrev pub MadeOffers : Type 0
MadeOffers = (w : List ℕ) → Made w → (x : LastKept) × Offering (head_of w) (offer_of w) x

-- "offering and then adopting equals the old closing", with the events: of a block that closes with k
pub record ClosesTwice (w : List ℕ) (k : Kept) : Type 0 where
  pub taken : number_after (block_after w closes) adopts ≡ 0
  pub head : head_of (block_after (block_after w closes) adopts) ≡ (end_round (head_of w)).head
  pub closed : (end_round (head_of w)).closed ≡ Closed.Settled k
  pub registers : registers_of (block_after (block_after w closes) adopts) ≡ with_event phase_over (registers_of w)
  pub offer : offer_of (block_after (block_after w closes) adopts) ≡ None

-- such a block, closed and then adopted, has ended its round as in one step (Q68)
abbrev pub MadeCloses : Type 0
MadeCloses =
    (w : List ℕ) (k : Kept) → Made w → IsBlock w → IsBlock (block_after w closes) → (close (head_of w)).closed ≡ Closed.Settled k → ClosesTwice w k
