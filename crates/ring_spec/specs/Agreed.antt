-- When a ring has agreed: at a phase end but the start all sound receivers held one position (exact agreement). By the range half of demand
-- 3 they hold it at every end from then on (`RingStaysAgreed`), so that a player has nothing to settle any more.
use Rattle.std.specs.Prelude.{Bool, true, false, cond, List, [], ◌∷◌, ◌≡◌, ℕ, get_or, ℤ, None, Some}
use Rattle.terms.specs.Positions.{eq_z}
use Rattle.terms.specs.Entry.{Entry}
use Rattle.terms.specs.declared.Family.{Family}
use Rattle.terms.specs.Counting.{Each}
use Rattle.convergence.specs.Phases.{End, lowest, highest}
use Rattle.ring_spec.specs.Rounds.{Round, PhaseEnd, receivers, as_end, ends_after}
use Rattle.ring_spec.specs.Converges.{no_end, RingWithin}

-- the position that the lowest and the highest both are; null if they differ
abbrev pub common : Entry → Entry → Entry
common None b = None
common (Some a) None = None
common (Some a) (Some b) = cond (eq_z a b) (Some a) None

-- the position that all sound receivers of an end hold; null if they hold more than one
abbrev pub held_by_all : End → Entry
held_by_all e = common (lowest receivers e) (highest receivers e)

-- the first of two entries, if it is a position, else the second
abbrev pub first_held : Entry → Entry → Entry
first_held None b = b
first_held (Some a) b = Some a

-- the position on which n heads and m listeners agreed, by their phase ends, the latest first; null as long as they did not. The start is
-- not looked at.
unfoldable pub agreed_on : ℕ → ℕ → List PhaseEnd → Entry
agreed_on n m [] = None
agreed_on n m (e ∷ []) = None
agreed_on n m (e ∷ (d ∷ es)) = first_held (agreed_on n m (d ∷ es)) (held_by_all (as_end n m e))

-- whether they did
abbrev pub is_agreed : Entry → Bool
is_agreed None = false
is_agreed (Some u) = true

abbrev pub RingStaysAgreed : Type 0
RingStaysAgreed =
    (K : Family) (n m f : ℕ) (v : ℕ → ℤ) (ws : List Round) → RingWithin K n m f v ws
    → let es = ends_after K n f v ws in let e = as_end n m (get_or es 0 no_end) in
    (u : ℤ) → agreed_on n m es ≡ Some u → Each receivers (λ i. e.struck i ≡ false → e.at i ≡ Some u)
