-- Demand 3, of a ring of records and frames: any first positions, any rounds within the limits, any planted bytes.
use Rattle.std.specs.Prelude.{false, true, List, [], ◌∷◌, ◌≡◌, ℕ, ◌+◌, ◌≤◌, ◌<◌, min, length, get_or, ℤ, None, Some}
use Rattle.terms.specs.Positions.{is_position}
use Rattle.terms.specs.Entry.{Entry}
use Rattle.terms.specs.declared.Family.{Family}
use Rattle.marks.specs.Marks.{bit_of}
use Rattle.terms.specs.Counting.{Each, AtMost}
use Rattle.convergence.specs.Phases.{End, lowest, highest}
use Rattle.convergence.specs.Demand3.{KeptBetween, Demand3, AcceptedSize, Halves}
use Rattle.head_spec.specs.Kept.{LastKept}
use Rattle.head_spec.specs.Seats.{most_counted}
use Rattle.ring_spec.specs.Rounds.{Round, lost, most_rounds, PhaseEnd, receivers, is_receiver, as_end, ring_after, ends_after, ends_since}

-- at most f heads are struck in each round; listeners do not count (P67)
abbrev pub FewStruckIn : ℕ → ℕ → List Round → Type 0
FewStruckIn n f [] = Unit {0}
FewStruckIn n f (w ∷ ws) = AtMost f n (bit_of w.struck) × FewStruckIn n f ws

-- no end at all
abbrev pub no_end : PhaseEnd
no_end = record { collect = 0; confess = 0; struck = 0; heads = λ i. lost }

-- any two of a list of ends, k apart: the list has the latest first, so the earlier end is the one at i + k (P71)
abbrev pub AnyTwo : (K : Family) (n m f : ℕ) (es : List PhaseEnd) → Type 0
AnyTwo K n m f es =
    (i k : ℕ) → i + k < length es → Demand3 receivers (Halves K n f) k (as_end n m (get_or es (i + k) no_end)) (as_end n m (get_or es i no_end))

-- n heads and m listeners of the family K within their limits: an accepted size, first positions in range, no more than f heads struck in a
-- round, and no round after the last of phase 65,535
pub record RingWithin (K : Family) (n m f : ℕ) (v : ℕ → ℤ) (ws : List Round) : Type 0 where
  pub most : n ≤ 32
  pub listeners : m ≤ 16
  pub size : AcceptedSize K n f
  pub range : Each n (λ i. is_position (v i) ≡ true)
  pub few : FewStruckIn n f ws
  pub rounds : length ws ≤ most_rounds K

abbrev pub RingConverges : Type 0
RingConverges = (K : Family) (n m f : ℕ) (v : ℕ → ℤ) (ws : List Round) → RingWithin K n m f v ws → AnyTwo K n m f (ends_after K n f v ws)

-- ---- the kept range (document 02, A2)

-- a record holds a kept range, and it lies between the lowest and the highest
abbrev pub HoldsBetween : Entry → Entry → LastKept → Type 0
HoldsBetween low high None = ⊥
HoldsBetween low high (Some k) = KeptBetween low high k.low k.high

-- at each phase end, for each head and listener that is sound there: between the sound positions that the phase started from
abbrev pub RingKeepsBetween : Type 0
RingKeepsBetween =
    (K : Family) (n m f : ℕ) (v : ℕ → ℤ) (ws : List Round) → RingWithin K n m f v ws
    → let es = ends_after K n f v ws in
    (i : ℕ) → i + 1 < length es → let e = as_end n m (get_or es (i + 1) no_end) in let e' = get_or es i no_end in
    Each receivers (λ j. (as_end n m e').struck j ≡ false → HoldsBetween (lowest receivers e) (highest receivers e) (e'.heads j).seat.kept)

-- ---- phases since the last strike (document 02, A10)

-- the count of receiver i after the rounds ws: of the ended phases whose last round came after the last round that marks it, up to 255
abbrev pub count_after : Family → List Round → ℕ → ℕ
count_after K ws i = min most_counted (ends_since K i ws)

-- the record of each head and listener that is not struck in the last round holds it (Q90)
abbrev pub RingCounts : Type 0
RingCounts =
    (K : Family) (n m f : ℕ) (v : ℕ → ℤ) (ws : List Round) → RingWithin K n m f v ws
    → let R = ring_after K n f v ws in
    Each receivers (λ i. is_receiver n m i ≡ true → bit_of R.before i ≡ false → (R.heads i).seat.since ≡ count_after K ws i)

-- ---- a quiet phase (document 02, A11)

-- if the marks of a phase end have no head, all heads and listeners that they leave hold one position (Q92, Q93)
abbrev pub OneFocus : ℕ → End → Type 0
OneFocus n e = Each n (λ k. e.struck k ≡ false) → (i j : ℕ) → i < receivers → j < receivers → e.struck i ≡ false → e.struck j ≡ false → e.at i ≡ e.at j

-- at each phase end but the start, which ends no phase
abbrev pub RingQuiet : Type 0
RingQuiet =
    (K : Family) (n m f : ℕ) (v : ℕ → ℤ) (ws : List Round) → RingWithin K n m f v ws
    → let es = ends_after K n f v ws in (i : ℕ) → i + 1 < length es → OneFocus n (as_end n m (get_or es i no_end))
