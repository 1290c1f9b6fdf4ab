-- What a settling answers: refusal 25, or the new position with the kept range that it is the middle of and the trim.
use Rattle.std.specs.Prelude.{cond, List, ℕ, ◌-◌, leb, length, ℤ, None, Some, Ok, Err}
use Rattle.terms.specs.Refusals as refusal
use Rattle.terms.specs.Entry.{Entry}
use Rattle.convergence.specs.Settling.{Rule, nulls, ordered, low_kept, high_kept, middle, enough}
use Rattle.settle_midpoint.specs.declared.Kept.{Kept}
use Rattle.settle_midpoint.specs.Settled.{Settled}

-- t dropped from each end of the positions l, which are in order (Q12, D8)
abbrev pub kept : ℕ → ℕ → List ℤ → Kept
kept r t l = record { low = low_kept t l; high = high_kept t l; trim = t; position = middle r t l }

-- the number of an answer: 0, or that of the refusal
abbrev pub settled_number : Settled → ℕ
settled_number (Err c) = c
settled_number (Ok k) = 0

-- the new position, or none
abbrev pub settled_entry : Settled → Entry
settled_entry (Err c) = None
settled_entry (Ok k) = Some k.position

-- from n entries, by the rule R: r says how an odd sum is rounded (P27)
unfoldable pub settling : (r n : ℕ) (R : Rule) (E : ℕ → Entry) → Settled
settling r n R E =
    cond (enough n R E) (Ok (kept r (R.trim (nulls n E)) (ordered n E))) (Err refusal.too_few_trusted)

-- from the positions l among n entries: the others are null
unfoldable pub settling_from : (r n : ℕ) (R : Rule) (l : List ℤ) → Settled
settling_from r n R l =
    cond (leb (n - length l) R.most) (Ok (kept r (R.trim (n - length l)) l)) (Err refusal.too_few_trusted)
