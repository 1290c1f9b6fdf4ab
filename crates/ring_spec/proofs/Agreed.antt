-- A ring that has agreed stays so: an end at which all sound receivers held one position has it as its lowest and its highest, and by demand 3 what a sound receiver
-- holds at a later end lies between these.
use Rattle.std.specs.Prelude.{None, Some}
use mathlib.Core.Path.{◌≡◌, ap, sym, ◌∙◌}
use mathlib.Core.Bool.{Bool, true, false, cond}
use mathlib.Core.List.{List, [], ◌∷◌}
use Prim.Native.Nat.{ℕ, suc, ◌<◌}
use native.Mathlib.Omega.{arith}
use native.Mathlib.Nat.{zero-add}
use lib.Dec.{T}
use lib.ListN.{length, get_or}
use lib.IntN.{ℤ}
use Rattle.terms.specs.Positions.{eq_z}
use Rattle.terms.specs.Entry.{Entry}
use Rattle.terms.specs.declared.Family.{Family}
use Rattle.terms.proofs.Whole.{arithZ, eqZ→eq}
use Rattle.terms.specs.Counting.{Each}
use Rattle.convergence.specs.Phases.{lowest, highest}
use Rattle.convergence.specs.Demand3.{HeldBetween}
use Rattle.ring_spec.specs.Rounds.{PhaseEnd, receivers, as_end, ends_after}
use Rattle.ring_spec.specs.Converges.{no_end, AnyTwo}
use Rattle.ring_spec.specs.Agreed.{common, held_by_all, first_held, agreed_on, RingStaysAgreed}
use Rattle.ring_spec.proofs.Demand3.{ring_converges}

no_null : {A : Type 0} {u : ℤ} → None ≡ Some u → A
no_null p = let z : ◌≡◌ {A = ℕ} 0 1 = cc in absurd (omega arith)

same_position : {u v : ℤ} → Some u ≡ Some v → u ≡ v
same_position p = cc

-- both are that position
common_both : (low high : Entry) {u : ℤ} → common low high ≡ Some u → (low ≡ Some u) × (high ≡ Some u)
common_both None high e = no_null e
common_both (Some a) None e = no_null e
common_both (Some a) (Some b) {u} e = go (eq_z a b) (eqZ→eq a b) e
  where
    go : (t : Bool) → (T t → a ≡ b) → cond t (Some a) None ≡ Some u → (Some a ≡ Some u) × (Some b ≡ Some u)
    go true same e = (e, ap Some (sym (same tt)) ∙ e)
    go false same e = no_null e

between_one : {u : ℤ} (x : Entry) → HeldBetween (Some u) (Some u) x → x ≡ Some u
between_one None b = absurd b
between_one (Some v) (l, h) = ap Some (omega arithZ)

-- the end at which it agreed
first_agreed : (n m : ℕ) (es : List PhaseEnd) {u : ℤ} → agreed_on n m es ≡ Some u
    → (k : ℕ) × (k < length es) × (held_by_all (as_end n m (get_or es k no_end)) ≡ Some u)
unfolding agreed_on
first_agreed n m [] e = no_null e
first_agreed n m (x ∷ []) e = no_null e
first_agreed n m (x ∷ (y ∷ es)) {u} e = go (agreed_on n m (y ∷ es)) (first_agreed n m (y ∷ es)) e
  where
    go : (a : Entry)
        → (a ≡ Some u → (k : ℕ) × (k < length (y ∷ es)) × (held_by_all (as_end n m (get_or (y ∷ es) k no_end)) ≡ Some u))
        → first_held a (held_by_all (as_end n m x)) ≡ Some u
        → (k : ℕ) × (k < length (x ∷ (y ∷ es))) × (held_by_all (as_end n m (get_or (x ∷ (y ∷ es)) k no_end)) ≡ Some u)
    go None before e = (0, omega arith, e)
    go (Some a) before e = let (k, l, h) = before e in (suc k, omega arith, h)

pub agreed_held : (K : Family) (n m f : ℕ) (es : List PhaseEnd) → AnyTwo K n m f es → {u : ℤ} → agreed_on n m es ≡ Some u
    → let e = as_end n m (get_or es 0 no_end) in Each receivers (λ i. e.struck i ≡ false → e.at i ≡ Some u)
agreed_held K n m f es A {u} agreed i l q =
    let (k, t, h) = first_agreed n m es agreed in
    let e = as_end n m (get_or es k no_end) in
    let (low, high) = common_both (lowest receivers e) (highest receivers e) h in
    let D = rw zero-add at (A 0 k (rw zero-add t)) in
    between_one _ (rw (low, high) at (D.range i l q))

pub stays_agreed : RingStaysAgreed
stays_agreed K n m f v ws W u = agreed_held K n m f (ends_after K n f v ws) (ring_converges K n m f v ws W)
