-- The midpoint call: the family (document 02, A9), n, f, the phase (A7), and a list's marks and entries. Checks 1, 2 (18 in a ring of one
-- round), 5, 8 (entries not 4n bytes), 10, 11, 25.
use Rattle.std.specs.Prelude.{List, ℕ, ◌*◌, eqb, length, Err}
use Rattle.terms.specs.Refusals as refusal
use Rattle.terms.specs.Refusals.{check, unless_refused}
use Rattle.terms.specs.Sizes.{check_size, is_phase}
use Rattle.terms.specs.Entry.{Entry}
use Rattle.terms.specs.declared.Family.{Family}
use Rattle.marks.specs.Marks.{marks_below}
use Rattle.entries.specs.Entries.{entry_at, entries_fit, numbers}
use Rattle.convergence.specs.Settling.{rule_of}
use Rattle.terms.specs.Positions.{rounding}
use Rattle.settle_midpoint.specs.Settled.{Settled}
use Rattle.settle_midpoint.specs.Answers.{settling}

-- the entries that a mark word and bytes give
abbrev pub entries_given : (n marks : ℕ) (s : List ℕ) → ℕ → Entry
entries_given n marks s = entry_at marks (numbers s n)

-- all but 25, which settling gives (P40b, Q62)
unfoldable pub list_refusal : (K : Family) (n f phase marks : ℕ) (entries : List ℕ) → ℕ
list_refusal K n f p marks s =
    check_size K n f
    (check (is_phase p) refusal.phase_out_of_range
    (check (eqb (length s) (4 * n)) refusal.wrong_length_for_kind
    (check (marks_below marks n) refusal.bad_count_or_marks
    (check (entries_fit marks s n) refusal.entry_out_of_range 0))))

-- rounded as in phase p (Q87)
unfoldable pub midpoint_call : (K : Family) (n f phase marks : ℕ) (entries : List ℕ) → Settled
midpoint_call K n f p marks s = unless_refused Err (list_refusal K n f p marks s) (settling (rounding p) n (rule_of K f) (entries_given n marks s))
