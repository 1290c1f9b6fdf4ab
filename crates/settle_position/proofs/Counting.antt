-- Counts of 32 entries, to which one is added at each entry where a test holds, one entry after the other.
use mathlib.Core.Path.{◌≡◌, refl, ap, ap₂, ◌∙◌}
use mathlib.Core.Logic.{◌≢◌}
use mathlib.Core.Bool.{Bool}
use mathlib.Core.List.{List}
use Prim.Native.Nat.{ℕ, ◌+◌, ◌≤◌, ◌<◌}
use native.Mathlib.Omega.{arith}
use mir.Val.{bool_byte}
use lib.ListN.{length, get_or, set, length-set}
use lib.Seq.{get_or-set_other}
use Rattle.terms.specs.Counting.{Each, bit}
use Rattle.terms.proofs.Sums.{bit_le}
use Rattle.marks.proofs.Counts.{byte_bit}
use Rattle.settle_trust.proofs.Cells.{each_stored}

-- before entry j: it is added to the old counts below j, and the others are as they were
pub record AddedTo (test : ℕ → Bool) (old : List ℕ) (j : ℕ) (l : List ℕ) : Type 0 where
  pub within : j ≤ 32
  pub long : length l ≡ 32
  pub below : Each j (λ i. get_or l i 0 ≡ get_or old i 0 + bit (test i))
  pub above : (i : ℕ) → j ≤ i → get_or l i 0 ≡ get_or old i 0

pub added_none : {test : ℕ → Bool} {old : List ℕ} → length old ≡ 32 → AddedTo test old 0 old
added_none long = record { within = omega arith; long = long; below = λ i l. absurd (omega arith); above = λ i l. refl }

module _ {test : ℕ → Bool} {old l : List ℕ} {j : ℕ} (A : AddedTo test old j l) where
  module _ (more : j < 32) {b : Bool} (same : b ≡ test j) where
    pub added_small : Each 32 (λ i. get_or old i 0 < 32) → get_or l j 0 + bool_byte b ≤ 32
    added_small small = omega (arith, byte_bit b, bit_le b, A.above j (omega arith), small j more)

    pub added_next : AddedTo test old (j + 1) (set l j (get_or l j 0 + bool_byte b))
    added_next =
        let y = get_or l j 0 + bool_byte b in
        record {
          within = omega arith;
          long = length-set l j y ∙ A.long;
          below =
              each_stored l j y (λ i z. z ≡ get_or old i 0 + bit (test i)) (omega (arith, A.long)) A.below
              (ap₂ (λ (m k : ℕ). m + k) (A.above j (omega arith)) (byte_bit b ∙ ap bit same));
          above = λ i h. let d : i ≢ j = omega arith in get_or-set_other l j i y 0 d ∙ A.above i (omega arith);
        }

  pub added_all : 32 ≤ j → (length l ≡ 32) × Each 32 (λ i. get_or l i 0 ≡ get_or old i 0 + bit (test i))
  added_all all = (A.long, λ i h. A.below i (omega arith))
