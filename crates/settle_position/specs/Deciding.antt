-- What deciding entry by entry looks at.
use Rattle.std.specs.Prelude.{◌≡◌, true, false, List, ℕ, ◌≤◌, ℤ, get_or, None}
use Rattle.terms.specs.Entry.{Entry}
use Rattle.marks.specs.Marks.{bit_of}
use Rattle.terms.specs.Counting.{Each}
use Rattle.entries.specs.Entries.{entry_at}
use Rattle.settle_trust.specs.Cells.{column_of, cell_for, decided}
use Rattle.settle_position.specs.declared.Deciding.{Deciding}
use Rattle.settle_position.specs.Reference.{Decides, Lacks}

-- The entries E, one by one: null if the link confessed; what the reference list shows if it decides; null if it lacks a position; else
-- what the lists and their marks decide. From 32 on they are null. The reference is a list of numbers, with its marks in d (D16).
pub record Prepared (E : ℕ → Entry) (lists : List (List ℤ)) (marks : List ℕ) (reference : List ℤ) (same : List ℕ) (d : Deciding) : Type 0 where
  pub healed : (j : ℕ) → bit_of d.confessed j ≡ true → E j ≡ None
  pub shown : Each 32 (λ j. bit_of d.confessed j ≡ false → let e = entry_at d.word reference j in
      Decides (cell_for e) d.need d.alike d.apart (get_or same j 0) → E j ≡ e)
  pub lacking : Each 32 (λ j. bit_of d.confessed j ≡ false → let e = entry_at d.word reference j in
      Lacks (cell_for e) d.need d.alike d.apart (get_or same j 0) → E j ≡ None)
  pub searched : Each 32 (λ j. bit_of d.confessed j ≡ false → let e = entry_at d.word reference j in
      (Decides (cell_for e) d.need d.alike d.apart (get_or same j 0) → ⊥) → E j ≡ decided false d.count d.need (column_of marks lists j))
  pub past : (j : ℕ) → 32 ≤ j → E j ≡ None
  pub few : d.count ≤ 32
