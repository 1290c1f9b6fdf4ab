-- The reach call: the family, n, f, the phase, the open entry's number, a list's marks and entries, and the wanted position. Checks 1, 2
-- (18 in a one-round ring), 5, 3, 8 (entries not 4n bytes), 10, 11, 25.
use Rattle.std.specs.Prelude.{◌≡◌, Bool, true, false, ◌&&◌, ◌||◌, List, ℕ, zero, suc, ◌*◌, eqb, ltb, length, ℤ, pos, Option, Some, None, Ok, Err}
use Rattle.terms.specs.Refusals as refusal
use Rattle.terms.specs.Refusals.{check}
use Rattle.terms.specs.Sizes.{is_phase, check_size}
use Rattle.terms.specs.Positions.{is_position, rounding}
use Rattle.terms.specs.Counting.{Each}
use Rattle.fields.specs.Bytes.{signed_at}
use Rattle.marks.specs.Marks.{bit_of, marks_below}
use Rattle.entries.specs.Entries.{fits}
use Rattle.convergence.specs.Settling.{enough, rule_of}
use Rattle.settle_midpoint.specs.Call.{entries_given, list_refusal, midpoint_call}
use Rattle.settle_midpoint.specs.Answers.{settled_entry}
use Rattle.terms.specs.declared.Family.{Family}
use Rattle.settle_reach.specs.Reached.{Reached}
use Rattle.settle_reach.specs.Reach.{entry_set, EntryBrings, Found}

-- whether the first n numbers of the bytes s fit in a list with these marks; the open entry j may be any, whatever its mark (Q97)
unfoldable pub others_fit : (j marks : ℕ) (s : List ℕ) (n : ℕ) → Bool
others_fit j marks s zero = true
others_fit j marks s (suc k) = others_fit j marks s k && (eqb k j || fits (bit_of marks k) (signed_at s (4 * k)))

-- 1, 2 or 18, 5, 3, 8, 10, 11, before the checks that follow (Q96)
unfoldable pub check_reach : (K : Family) (n f phase j marks : ℕ) (entries : List ℕ) (rest : ℕ) → ℕ
check_reach K n f p j marks s rest =
    check_size K n f
    (check (is_phase p) refusal.phase_out_of_range
    (check (ltb j n) refusal.number_too_high
    (check (eqb (length s) (4 * n)) refusal.wrong_length_for_kind
    (check (marks_below marks n) refusal.bad_count_or_marks
    (check (others_fit j marks s n) refusal.entry_out_of_range rest)))))

-- and then 25: "the open entry is not null when nulls are counted" (Q98)
unfoldable pub reach_refusal : (K : Family) (n f phase j marks : ℕ) (entries : List ℕ) → ℕ
reach_refusal K n f p j marks s =
    check_reach K n f p j marks s (check (enough n (rule_of K f) (entry_set (entries_given n marks s) j (pos 0))) refusal.too_few_trusted 0)

-- what is answered: the number of the first check that fails, and else what is found for the wanted position x
pub data ReachAnswer (K : Family) (n f p j marks : ℕ) (s : List ℕ) (x : ℤ) : Reached → Type 0 where
  refused : (c : ℕ) → reach_refusal K n f p j marks s ≡ suc c → ReachAnswer K n f p j marks s x (Err (suc c))
  found : reach_refusal K n f p j marks s ≡ 0 → (a : Option ℤ) → Found (EntryBrings (rounding p) n (rule_of K f) (entries_given n marks s) j x) a
      → ReachAnswer K n f p j marks s x (Ok a)

-- one answer at most
abbrev pub OneReachAnswer : Type 0
OneReachAnswer =
    (K : Family) (n f p j marks : ℕ) (s : List ℕ) (x : ℤ) (a b : Reached) → ReachAnswer K n f p j marks s x a → ReachAnswer K n f p j marks s x b → a ≡ b

-- a wanted position that is out of range is never refused for that, and none brings it (Q96, Q100)
abbrev pub OutOfRange : Type 0
OutOfRange =
    (K : Family) (n f p j marks : ℕ) (s : List ℕ) (x : ℤ) → reach_refusal K n f p j marks s ≡ 0 → is_position x ≡ false → ReachAnswer K n f p j marks s x (Ok None)

-- the position that is answered, put into the list, makes the midpoint call give the wanted one, in either family
abbrev pub MidpointReaches : Type 0
MidpointReaches =
    (K : Family) (n f p j marks : ℕ) (s : List ℕ) (x u : ℤ) → ReachAnswer K n f p j marks s x (Ok (Some u))
    → (marks' : ℕ) (s' : List ℕ) → list_refusal K n f p marks' s' ≡ 0 → Each n (λ k. entries_given n marks' s' k ≡ entry_set (entries_given n marks s) j u k)
    → settled_entry (midpoint_call K n f p marks' s') ≡ Some x
