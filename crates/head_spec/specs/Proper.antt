-- A proper record: what holds of every record that calls can reach (`EveryProper`, in Demand2.antt).
use Rattle.std.specs.Prelude.{◌≡◌, ◌≢◌, false, true, List, [], ℕ, ◌^◌, ◌≤◌, ◌<◌, length, get_or, None, Some}
use Rattle.terms.specs.Sizes.{rounds_of, is_listener}
use Rattle.terms.specs.Positions.{is_position}
use Rattle.terms.specs.declared.Family.{Family}
use Rattle.terms.specs.declared.Table.{Table}
use Rattle.marks.specs.Marks.{bit_of}
use Rattle.entries.specs.Tables.{table_at}
use Rattle.terms.specs.Counting.{Each}
use Rattle.convergence.specs.Demand3.{AcceptedSize}
use Rattle.frame_spec.specs.Said.{collected}
use Rattle.frame_spec.specs.Proper.{ProperTable, Proper}
use Rattle.settle_midpoint.specs.declared.Kept.{Kept}
use Rattle.settle_trust.specs.declared.Links.{Links}
use Rattle.head_spec.specs.declared.Row.{Row}
use Rattle.head_spec.specs.Kept.{LastKept}
use Rattle.head_spec.specs.declared.Seat.{Seat}
use Rattle.head_spec.specs.declared.Head.{Head}
use Rattle.head_spec.specs.Record.{rows}
use Rattle.head_spec.specs.Seats.{most_counted}

-- an accepted size
pub record Sized (K : Family) (n f : ℕ) : Type 0 where
  pub some : 1 ≤ n
  pub most : n ≤ 32
  pub limit : AcceptedSize K n f

-- a kept range: its entries and its position are in range, and its trim is at most f
pub record ProperKept (f : ℕ) (k : Kept) : Type 0 where
  pub low : is_position k.low ≡ true
  pub high : is_position k.high ≡ true
  pub trim : k.trim ≤ f
  pub position : is_position k.position ≡ true

abbrev pub ProperLast : ℕ → LastKept → Type 0
ProperLast f None = Unit {0}
ProperLast f (Some k) = ProperKept f k

-- The position is null or in range. A head in round 0 that is not healed holds one; in a confession round it may have none, and a listener
-- may have none in either.
pub record ProperSeat (s : Seat) : Type 0 where
  pub size : Sized s.family s.n s.f
  pub number : is_listener s.number ≡ false → s.number < s.n
  pub from_first : 1 ≤ s.phase
  pub to_last : s.phase ≤ 65535
  pub round : s.round < rounds_of s.family
  pub position : Proper s.n (collected s.position)
  pub holds : is_listener s.number ≡ false → s.round ≡ 0 → s.healed ≡ false → s.position ≢ None
  pub kept : ProperLast s.f s.kept
  pub since : s.since ≤ most_counted

-- the list held of link k
abbrev pub list_from : Links → List Row → ℕ → Table
list_from g l k = record { marks = get_or g.marks k 0; entries = get_or (rows l) k [] }

-- What the links gave: no mark at n or above, tables of n entries, and nothing from a link that was not heard.
pub record ProperLinks (n heard : ℕ) (g : Links) (l : List Row) : Type 0 where
  pub confessed_below : g.confessed < 2 ^ n
  pub listed_below : g.listed < 2 ^ n
  pub marks_long : length g.marks ≡ 32
  pub lists_long : length l ≡ 32
  pub tables : Each n (λ k. ProperTable n (list_from g l k))
  pub unheard : (k : ℕ) → bit_of heard k ≡ false → (bit_of g.confessed k ≡ false) × (bit_of g.listed k ≡ false)

-- In round 0 entry k of the list is null while link k is not heard.
pub record ProperHead (h : Head) : Type 0 where
  pub seat : ProperSeat h.seat
  pub heard : h.heard < 2 ^ h.seat.n
  pub list : ProperTable h.seat.n h.list
  pub blank : h.seat.round ≡ 0 → (k : ℕ) → bit_of h.heard k ≡ false → table_at h.list k ≡ None
  pub links : ProperLinks h.seat.n h.heard h.links h.lists
