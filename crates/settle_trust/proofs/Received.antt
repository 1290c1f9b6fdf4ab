-- What the links gave, by their marks: a link that gave no list says of every head what a list with no marks does. A link from 32 on gave nothing, and
-- no list says anything of a head from 32 on, since a word has no such bit.
use Rattle.std.specs.Prelude.{None}
use mathlib.Core.Path.{◌≡◌, refl, ap, sym, ◌∙◌}
use mathlib.Core.Bool.{Bool, true, false, cond}
use mathlib.Core.List.{List, []}
use Prim.Native.Nat.{ℕ, zero, suc, ◌≤◌, ◌<◌}
use native.Mathlib.Omega.{arith}
use mir.Syntax.{w32}
use mir.Val.{Val}
use denote.Laws.{Is}
use borrow.Author.Rules.{elem_Fits}
use lib.IntN.{ℤ}
use lib.ListN.{length, get_or, length-set}
use Rattle.terms.specs.Entry.{Entry}
use Rattle.marks.specs.Marks.{bit_of}
use Rattle.entries.specs.Entries.{entry_at}
use Rattle.marks.proofs.Marks.{bit_none, bit_above}
use Rattle.terms.specs.Counting.{Each}
use Rattle.convergence.specs.Trust.{nothing, confessed, gave, has_confessed, says_of}
use Rattle.settle_trust.specs.declared.Links.{Links}
use Rattle.settle_trust.specs.Received.{given_by}
use Rattle.settle_trust.specs.Cells.{marks_given, marks_of_link, marks_to, column_of}
use Rattle.settle_trust.proofs.Cells.{entry_unmarked, each_stored}
use Rattle.settle_trust.specs.contracts.Links.{the_row}

module _ (g : Links) (lists : List (List ℤ)) (k : ℕ) where
  abbrev list : ℕ → Entry
  list = entry_at (get_or g.marks k 0) (get_or lists k [])

  pub confessed_given : has_confessed (given_by g lists k) ≡ bit_of g.confessed k
  unfolding given_by
  confessed_given = go (bit_of g.confessed k) (bit_of g.listed k)
    where
      go : (a b : Bool) → has_confessed (cond a confessed (cond b (gave list) nothing)) ≡ a
      go true b = refl
      go false true = refl
      go false false = refl

  pub says_given : (j : ℕ) → entry_at (marks_of_link g k) (get_or lists k []) j ≡ says_of j (given_by g lists k)
  unfolding given_by
  says_given j = go (bit_of g.confessed k) (bit_of g.listed k)
    where
      no_marks : entry_at 0 (get_or lists k []) j ≡ None
      no_marks = entry_unmarked 0 (get_or lists k []) j (bit_none j)

      go : (a b : Bool) → entry_at (marks_given a b (get_or g.marks k 0)) (get_or lists k []) j ≡ says_of j (cond a confessed (cond b (gave list) nothing))
      go true b = no_marks
      go false true = refl
      go false false = no_marks

-- ---- the mark words of the first n links

marks_long : (g : Links) (n : ℕ) → length (marks_to g n) ≡ 32
unfolding marks_to
marks_long g zero = refl
marks_long g (suc k) = length-set (marks_to g k) k (marks_of_link g k) ∙ marks_long g k

marks_read : (g : Links) (n : ℕ) → n ≤ 32 → Each n (λ k. get_or (marks_to g n) k 0 ≡ marks_of_link g k)
unfolding marks_to
marks_read g zero size k l = absurd (omega arith)
marks_read g (suc i) size k l =
    each_stored (marks_to g i) i (marks_of_link g i) (λ j x. x ≡ marks_of_link g j) (omega (arith, marks_long g i)) (marks_read g i (omega arith)) refl k (omega arith)

-- what the lists say of head j
pub column_given : (g : Links) (lists : List (List ℤ)) {marks : List ℕ} (n j : ℕ) → n ≤ 32 → marks ≡ marks_to g n
    → Each n (λ k. column_of marks lists j k ≡ says_of j (given_by g lists k))
column_given g lists n j size e k l =
    ap (λ (m : List ℕ). column_of m lists j k) e ∙ ap (λ (m : ℕ). entry_at m (get_or lists k []) j) (marks_read g n size k l) ∙ says_given g lists k j

-- ---- marks are words

pub record Words (g : Links) : Type 0 where
  pub confessed : g.confessed < 4294967296
  pub listed : g.listed < 4294967296
  pub marks : (k : ℕ) → get_or g.marks k 0 < 4294967296

-- as the machine holds them
pub words : {vs : List Val} (g : Links) → Is the_row g vs → Words g
words g is = record {
  confessed = is.1.1.0.1;
  listed = is.1.1.1.0.1;
  marks = λ k. (elem_Fits w32 w32 g.marks _ k is.1.1.1.1.0.1.1 tt).fits;
}

module _ (g : Links) (lists : List (List ℤ)) (w : Words g) where
  pub given_past : (k : ℕ) → 32 ≤ k → given_by g lists k ≡ nothing
  unfolding given_by
  given_past k h = rw (bit_above g.confessed 32 k w.confessed h, bit_above g.listed 32 k w.listed h)

  pub says_past : (j k : ℕ) → 32 ≤ j → says_of j (given_by g lists k) ≡ None
  says_past j k h =
      sym (says_given g lists k j) ∙ entry_unmarked (marks_of_link g k) (get_or lists k []) j (bit_above (marks_of_link g k) 32 j (go (bit_of g.confessed k) (bit_of g.listed k)) h)
    where
      go : (a b : Bool) → marks_given a b (get_or g.marks k 0) < 4294967296
      go true b = omega arith
      go false true = w.marks k
      go false false = omega arith
