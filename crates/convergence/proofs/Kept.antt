-- The kept range of a table, by any rule of settling. If something is kept, and no more entries lie outside the sound positions than are dropped at an end
-- (`Holds`), then the kept range lies between these, and so does the new position. If besides no receiver's highest lies below another's lowest, the new
-- positions are no further apart than half of the sound ones, rounded up (`closer`). `OnePhase` and `OneRound` have what the two families give.
use mathlib.Core.Path.{◌≡◌}
use mathlib.Core.Bool.{Bool}
use Prim.Native.Nat.{ℕ, ◌+◌, ◌*◌, ◌/◌, ◌≤◌, ◌<◌}
use native.Mathlib.Omega.{arith}
use lib.IntN.{ℤ, pos, ◌+ℤ◌}
use lib.Signed.{le_z, ◌≤ℤ◌, ◌<ℤ◌, ≤ℤ_refl}
use Rattle.terms.specs.Positions.{gap}
use Rattle.terms.specs.Entry.{Entry}
use Rattle.terms.proofs.Whole.{arithZ, not_le, dec_le_z, half_between, half_closer}
use Rattle.terms.specs.Counting.{sum, bit}
use Rattle.convergence.specs.Settling.{nulls, Rule, ordered, low_kept, high_kept, middle, midpoint}
use Rattle.convergence.proofs.Order.{passes, gt_fails, KeptRange, kept_counts}

unless_above : {a b : ℤ} → (b <ℤ a → ⊥) → a ≤ℤ b
unless_above {a} {b} h = go (dec_le_z a b)
  where
    go : Dec (a ≤ℤ b) → a ≤ℤ b
    go (yes k) = k
    go (no k) = absurd (h (not_le k))

-- the lowest and the highest kept
abbrev pub low : ℕ → Rule → (ℕ → Entry) → ℤ
low n R E = low_kept (R.trim (nulls n E)) (ordered n E)

abbrev pub high : ℕ → Rule → (ℕ → Entry) → ℤ
high n R E = high_kept (R.trim (nulls n E)) (ordered n E)

-- one is kept
module _ (n : ℕ) (R : Rule) (E : ℕ → Entry) (some : 2 * R.trim (nulls n E) + nulls n E < n) where
  pub the_kept : KeptRange n (R.trim (nulls n E)) E (low n R E) (high n R E)
  the_kept = kept_counts n (R.trim (nulls n E)) E some

  -- whatever the entries are: the new position lies between the lowest and the highest
  pub in_kept : (r : ℕ) → r ≤ 1 → (low n R E ≤ℤ midpoint r n R E) × (midpoint r n R E ≤ℤ high n R E)
  unfolding midpoint middle
  in_kept r h = half_between r (low n R E) (high n R E) _ _ h (≤ℤ_refl (low n R E)) the_kept.low_high (≤ℤ_refl (high n R E))

-- a table that is not refused, of which something is kept; outside m to M lie no more entries than are dropped at an end
pub record Holds (n : ℕ) (R : Rule) (m M : ℤ) (E : ℕ → Entry) : Type 0 where
  pub few : nulls n E ≤ R.most
  pub some : 2 * R.trim (nulls n E) + nulls n E < n
  pub outside : (q : ℤ → Bool) → ((u : ℤ) → m ≤ℤ u → u ≤ℤ M → bit (q u) ≡ 0) → sum n (λ j. passes q (E j)) ≤ R.trim (nulls n E)

module _ {n : ℕ} {R : Rule} {m M : ℤ} {E : ℕ → Entry} (H : Holds n R m M E) where
  low_in : m ≤ℤ low n R E
  low_in =
      unless_above
      (λ k. omega (arith, (the_kept n R E H.some).upto_low, H.outside (λ u. le_z u (low n R E)) (λ u a b. gt_fails {a = u} {b = low n R E} (omega arithZ))))

  high_in : high n R E ≤ℤ M
  high_in =
      unless_above
      (λ k. omega (arith, (the_kept n R E H.some).from_high, H.outside (λ u. le_z (high n R E) u) (λ u a b. gt_fails {a = high n R E} {b = u} (omega arithZ))))

  pub kept_in : (m ≤ℤ low n R E) × (low n R E ≤ℤ high n R E) × (high n R E ≤ℤ M)
  kept_in = (low_in, (the_kept n R E H.some).low_high, high_in)

  pub range : (r : ℕ) → r ≤ 1 → (m ≤ℤ midpoint r n R E) × (midpoint r n R E ≤ℤ M)
  unfolding midpoint middle
  range r h = half_between r m M _ _ h low_in (the_kept n R E H.some).low_high high_in

-- two receivers
pub closer : {n : ℕ} {R : Rule} {m M : ℤ} {E E' : ℕ → Entry} → Holds n R m M E → Holds n R m M E' → (high n R E <ℤ low n R E' → ⊥)
    → (r : ℕ) → midpoint r n R E' ≤ℤ (midpoint r n R E +ℤ pos ((gap m M + 1) / 2))
unfolding midpoint middle
closer {n = n} {R = R} {m = m} {M = M} {E = E} H H' no_gap r =
    half_closer r m M _ _ _ _ (low_in H) (the_kept n R E H.some).low_high (high_in H) (unless_above no_gap) (high_in H')
