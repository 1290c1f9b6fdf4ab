-- What a ring of devices is promised: the theorems of ring_spec's Converges.antt, of n heads and m listeners on boards of their own. marks:
-- the mark words of the rounds so far; es: their phase ends; both have the latest first. now: the records after these rounds.
use Rattle.std.specs.Prelude.{◌≡◌, true, false, List, [], ◌∷◌, ℕ, ◌+◌, ◌/◌, ◌≤◌, ◌<◌, length, get_or, ℤ, pos, ◌+ℤ◌, ◌≤ℤ◌, Some}
use Rattle.terms.specs.Sizes.{rounds_of}
use Rattle.terms.specs.declared.Family.{Family}
use Rattle.marks.specs.Marks.{bit_of}
use Rattle.terms.specs.Counting.{Each}
use Rattle.convergence.specs.Phases.{lowest, highest, spread}
use Rattle.convergence.specs.Demand3.{Halves, halved}
use Rattle.head_spec.specs.declared.Head.{Head}
use Rattle.ring_spec.specs.Rounds.{Round, PhaseEnd, receivers, is_receiver, as_end}
use Rattle.ring_spec.specs.Converges.{no_end, AnyTwo, HoldsBetween, count_after, OneFocus}

-- rounds with these marks, of which nothing else is told
unfoldable pub marking : List ℕ → List Round
marking [] = []
marking (x ∷ xs) = record { struck = x; amended = false; plants = [] } ∷ marking xs

pub record Promised (K : Family) (n m f : ℕ) (marks : List ℕ) (es : List PhaseEnd) (now : ℕ → Head) : Type 0 where
  -- there is an end for the start and for each phase whose rounds are all there
  pub many : length es ≡ length marks / rounds_of K + 1
  -- any two keep demand 3
  pub converges : AnyTwo K n m f es
  -- each sound device holds a kept range between the sound positions that the phase started from (document 02, A2)
  pub between : (i : ℕ) → i + 1 < length es → let e = as_end n m (get_or es (i + 1) no_end) in let e' = get_or es i no_end in
      Each receivers (λ j. (as_end n m e').struck j ≡ false
      → HoldsBetween (lowest receivers e) (highest receivers e) (e'.heads j).seat.kept)
  -- each that the last round does not mark holds the count of phase ends since the last round that marks it (A10)
  pub counts : Each receivers
      (λ i. is_receiver n m i ≡ true → bit_of (get_or marks 0 0) i ≡ false → (now i).seat.since ≡ count_after K (marking marks) i)
  -- at the end of a phase whose last round marks no head, all sound devices hold one position (A11)
  pub quiet : (i : ℕ) → i + 1 < length es → OneFocus n (as_end n m (get_or es i no_end))

-- In plain words, of any two devices, heads or listeners, that an end does not mark: each holds a position, and k phases after another end
-- neither lies further above the other than the spread at that end divided by 2 to the power k, rounded up.
abbrev pub AnyPair : (K : Family) (n m f : ℕ) (es : List PhaseEnd) → Type 0
AnyPair K n m f es =
    (i k : ℕ) → i + k < length es → Halves K n f
    → let e = get_or es i no_end in let s = spread receivers (as_end n m (get_or es (i + k) no_end)) in
    (a b : ℕ) → is_receiver n m a ≡ true → is_receiver n m b ≡ true → bit_of e.struck a ≡ false → bit_of e.struck b ≡ false
    → (x : ℤ) × (y : ℤ) × ((e.heads a).seat.position ≡ Some x) × ((e.heads b).seat.position ≡ Some y)
    × (y ≤ℤ (x +ℤ pos (halved k s)))

abbrev pub PairsClose : Type 0
PairsClose =
    (K : Family) (n m f : ℕ) (marks : List ℕ) (es : List PhaseEnd) (now : ℕ → Head) → n ≤ 32 → m ≤ 16 → Promised K n m f marks es now
    → AnyPair K n m f es
