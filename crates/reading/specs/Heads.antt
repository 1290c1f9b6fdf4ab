-- The reading of a head as calls change its record: it follows what is adopted, and nothing else. proofs/Heads.antt proves it.
use Rattle.std.specs.Prelude.{◌≡◌, ℕ, suc, List, ℤ, None, Some}
use Rattle.terms.specs.declared.Family.{Family}
use Rattle.settle_midpoint.specs.declared.Kept.{Kept}
use Rattle.head_spec.specs.Kept.{LastKept, Offer}
use Rattle.head_spec.specs.declared.Head.{Head}
use Rattle.head_spec.specs.Calls.{started, restarted, started_listener, hear, close, adopt}
use Rattle.head_spec.specs.Offers.{Offering}
use Rattle.reading.specs.declared.Reading.{Reading}
use Rattle.reading.specs.Readings.{kept_reading, reading_of, head_reading}

-- Of any record. A frame does not change the reading, and an offer does not show in it (Q101).
pub record FollowsAdoption : Type 0 where
  pub started : (K : Family) (n f i : ℕ) (v : ℤ) → head_reading (started K n f i v) ≡ Reading.Unknown
  pub restarted : (K : Family) (n f i p r : ℕ) → head_reading (restarted K n f i p r) ≡ Reading.Unknown
  pub listening : (K : Family) (n f i : ℕ) → head_reading (started_listener K n f i) ≡ Reading.Unknown
  pub heard : (h : Head) (k : ℕ) (s : List ℕ) → head_reading (hear h k s).head ≡ head_reading h
  pub closed : (h : Head) → head_reading (close h).head ≡ head_reading h
  pub adopted : (h : Head) (k : Kept) → (adopt h (Some k)).refusal ≡ 0 → head_reading (adopt h (Some k)).head ≡ reading_of (Some k)
  pub refused : (h : Head) (o : Offer) (c : ℕ) → (adopt h o).refusal ≡ suc c → head_reading (adopt h o).head ≡ head_reading h

-- Of a record that calls can reach, with the offer o: while nothing was adopted since the start or restart, it is unknown; else it is a
-- point or a range, of what was adopted last.
abbrev pub ReadsAdopted : LastKept → Reading → Type 0
ReadsAdopted None r = r ≡ Reading.Unknown
ReadsAdopted (Some k) r = r ≡ kept_reading k.low k.high

abbrev pub ReadingHolds : Type 0
ReadingHolds = (h : Head) (o : Offer) (x : LastKept) → Offering h o x → ReadsAdopted x (head_reading h)
