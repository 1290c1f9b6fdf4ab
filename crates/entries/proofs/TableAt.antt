-- The entries of a table that was made of entries are these.
use Rattle.std.specs.Prelude.{None, Some}
use mathlib.Core.Path.{◌≡◌, refl, ap, ◌∙◌}
use mathlib.Core.Bool.{Bool, true, false, cond}
use Prim.Native.Nat.{ℕ, zero, suc, ◌-◌, ◌^◌, ◌≤◌}
use native.Mathlib.Omega.{arith}
use native.Mathlib.Nat.{mul_comm}
use lib.IntN.{pos}
use lib.ListN.{get_or}
use lib.Seq.{get_or-set_same, get_or-set_other}
use Rattle.terms.specs.Entry.{Entry}
use Rattle.marks.specs.Marks.{bit_of}
use Rattle.marks.proofs.Words.{bit_low, bit_high}
use Rattle.terms.specs.Counting.{Each}
use Rattle.terms.proofs.Sums.{each_more}
use Rattle.entries.specs.Entries.{entry_at}
use Rattle.entries.specs.Tables.{table_at, mark, value_of, marks_of, values_of, table_of}
use Rattle.entries.proofs.Tables.{marks_below_lem, numbers_long}

pub numbers_at_lem : (n : ℕ) (E : ℕ → Entry) → n ≤ 32 → Each n (λ j. get_or (values_of n E) j (pos 0) ≡ value_of (E j))
unfolding values_of
numbers_at_lem zero E l = λ j h. absurd (omega arith)
numbers_at_lem (suc n) E l =
    each_more (λ j h. get_or-set_other (values_of n E) n j (value_of (E n)) (pos 0) (omega arith) ∙ numbers_at_lem n E (omega arith) j h)
    (get_or-set_same (values_of n E) n (value_of (E n)) (pos 0) (omega (arith, numbers_long E n)))

abbrev is_held : Entry → Bool
is_held None = false
is_held (Some v) = true

mark_bit : (e : Entry) → bit_of (mark e) 0 ≡ is_held e
unfolding bit_of
mark_bit None = refl
mark_bit (Some v) = refl

marks_at_lem : (n : ℕ) (E : ℕ → Entry) → Each n (λ j. bit_of (marks_of n E) j ≡ is_held (E j))
unfolding marks_of
marks_at_lem zero E = λ j h. absurd (omega arith)
marks_at_lem (suc n) E =
    rw (mul_comm (mark (E n)) (2 ^ n))
    (each_more (λ j h. bit_low (marks_of n E) (mark (E n)) n j h ∙ marks_at_lem n E j h)
    (bit_high (marks_of n E) (mark (E n)) n n (marks_below_lem E n) (omega arith) ∙ (let z : n - n ≡ 0 = omega arith in ap (bit_of (mark (E n))) z) ∙ mark_bit (E n)))

pub table_at_lem : (n : ℕ) (E : ℕ → Entry) → n ≤ 32 → Each n (λ j. table_at (table_of n E) j ≡ E j)
unfolding entry_at
table_at_lem n E l j h = rw (marks_at_lem n E j h, numbers_at_lem n E l j h) (go (E j))
  where
    go : (e : Entry) → cond (is_held e) (Some (value_of e)) None ≡ e
    go None = refl
    go (Some v) = refl
