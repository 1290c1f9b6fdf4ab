-- Planted positions, counted head by head. A head that is not struck adds nothing.
use Rattle.std.specs.Prelude.{None, Some}
use Rattle.std.proofs.Common.{◌≡◌, ℕ, zero, suc, ◌+◌, ◌≤◌, Bool, true, false, List, ℤ, sym, refl, ap, ◌∙◌, add-one, arith}
use lib.Signed.{le_z}
use Rattle.terms.specs.Entry.{Entry}
use Rattle.marks.specs.Marks.{bit_of}
use Rattle.marks.proofs.Counts.{sum_next}
use Rattle.terms.specs.Counting.{sum}
use Rattle.terms.proofs.Sums.{bit_le}
use Rattle.ring_play.specs.declared.Stage.{Stage}
use Rattle.ring_play.specs.declared.sides.Counts.{Counts}
use Rattle.ring_play.specs.Inner.Collection.{heard_of}
use Rattle.ring_play.specs.Inner.Sides.{planted_entry, tested, counts_with, SidesCounted}

pub tested_le : (q : ℤ → Bool) (e : Entry) → tested q e ≤ 1
tested_le q None = omega arith
tested_le q (Some u) = bit_le (q u)

pub sum_tested_le : (n : ℕ) (q : ℤ → Bool) (E : ℕ → Entry) → sum n (λ k. tested q (E k)) ≤ n
unfolding sum
sum_tested_le zero q E = omega arith
sum_tested_le (suc n) q E = omega (arith, tested_le q (E n), sum_tested_le n q E)

-- ---- head by head

told_none : (s : Stage) (plant : ℕ → ℕ → List ℕ) (i k : ℕ) → bit_of s.struck k ≡ false → planted_entry s plant i k ≡ None
unfolding planted_entry
told_none s plant i k b = rw b

pub told_some : (s : Stage) (plant : ℕ → ℕ → List ℕ) (i k : ℕ) → bit_of s.struck k ≡ true → planted_entry s plant i k ≡ heard_of s (plant k i) k
unfolding planted_entry
told_some s plant i k b = rw b

module _ (E : ℕ → Entry) (lowest highest : ℤ) where
  pub counts_none : SidesCounted 0 E lowest highest (record { all = 0; low = 0; high = 0 })
  unfolding sum
  counts_none = record { all = refl; low = refl; high = refl }

  module _ (k : ℕ) {c : Counts} (h : SidesCounted k E lowest highest c) where
    pub counts_small : (c.all ≤ k) × (c.low ≤ k) × (c.high ≤ k)
    counts_small = (
      rw h.all (sum_tested_le k (λ u. true) E),
      rw h.low (sum_tested_le k (λ u. le_z u lowest) E),
      rw h.high (sum_tested_le k (λ u. le_z highest u) E),
    )

    pub counts_more : {e : Entry} → E k ≡ e → SidesCounted (k + 1) E lowest highest (counts_with lowest highest e c)
    counts_more q =
        record {
          all = sum_next _ k h.all (ap (tested (λ u. true)) (sym q));
          low = sum_next _ k h.low (ap (tested (λ u. le_z u lowest)) (sym q));
          high = sum_next _ k h.high (ap (tested (λ u. le_z highest u)) (sym q));
        }

    counts_passed : E k ≡ None → SidesCounted (k + 1) E lowest highest c
    unfolding sum
    counts_passed e = record { all = h.all ∙ next (λ u. true); low = h.low ∙ next (λ u. le_z u lowest); high = h.high ∙ next (λ u. le_z highest u) }
      where
        next : (q : ℤ → Bool) → sum k (λ j. tested q (E j)) ≡ sum (k + 1) (λ j. tested q (E j))
        next q = rw (add-one k) (omega (arith, ap (tested q) e))

pub counts_pass : (s : Stage) (plant : ℕ → ℕ → List ℕ) (i : ℕ) {lowest highest : ℤ} {c : Counts} (k : ℕ) → bit_of s.struck k ≡ false → SidesCounted k (planted_entry s plant i) lowest highest c
    → SidesCounted (k + 1) (planted_entry s plant i) lowest highest c
counts_pass s plant i {lowest} {highest} k b h = counts_passed (planted_entry s plant i) lowest highest k h (told_none s plant i k b)

pub counts_as : {E : ℕ → Entry} {n : ℕ} {lowest lowest' highest highest' : ℤ} {c : Counts} → lowest ≡ lowest' → highest ≡ highest'
    → SidesCounted n E lowest highest c → SidesCounted n E lowest' highest' c
counts_as p q h = rw (p, q) at h
