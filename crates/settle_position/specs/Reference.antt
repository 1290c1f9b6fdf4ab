-- How the search for the trusted entries goes by the list of one link, the reference, before it counts a column. Nothing here is needed to
-- read what `settle_by` and `settle` promise.
use Rattle.std.specs.Prelude.{◌≡◌, Bool, not, ◌&&◌, List, [], ℕ, zero, suc, ◌+◌, ◌≤◌, ◌<◌, eqb, ℤ, pos, get_or}
use Rattle.terms.specs.Positions.{eq_z}
use Rattle.terms.specs.Counting.{Each, sum, bit}
use Rattle.settle_position.specs.declared.Comparison.{Comparison}

-- two lists have the same number at entry j
abbrev pub same_number : List ℤ → List ℤ → ℕ → Bool
same_number a b j = eq_z (get_or a j (pos 0)) (get_or b j (pos 0))

-- the mark word has marks, and others than w
abbrev pub is_apart : ℕ → ℕ → Bool
is_apart marks w = not (eqb marks w) && not (eqb marks 0)

-- list k has the marks of the reference, and its number at entry j
abbrev pub agrees : (marks : List ℕ) (lists : List (List ℤ)) (reference j k : ℕ) → Bool
agrees marks lists reference j k = eqb (get_or marks k 0) (get_or marks reference 0) && same_number (get_or lists k []) (get_or lists reference []) j

-- how many of the first n lists have the marks of the reference, how many have others, and how many of the first have its number at entry j
abbrev pub alike_to : ℕ → List ℕ → ℕ → ℕ
alike_to n marks reference = sum n (λ k. bit (eqb (get_or marks k 0) (get_or marks reference 0)))

abbrev pub apart_from : ℕ → List ℕ → ℕ → ℕ
apart_from n marks reference = sum n (λ k. bit (is_apart (get_or marks k 0) (get_or marks reference 0)))

abbrev pub agreeing : (n : ℕ) (marks : List ℕ) (lists : List (List ℤ)) (reference j : ℕ) → ℕ
agreeing n marks lists reference j = sum n (λ k. bit (agrees marks lists reference j k))

-- what comparing n lists with one of them, the reference, answers (D16)
pub record Compares (n : ℕ) (marks : List ℕ) (lists : List (List ℤ)) (reference : ℕ) (r : Comparison) : Type 0 where
  pub alike : r.alike ≡ alike_to n marks reference
  pub apart : r.apart ≡ apart_from n marks reference
  pub same : Each 32 (λ j. get_or r.same j 0 ≡ agreeing n marks lists reference j)

-- The cell x of the reference decides. Where it is null, only lists with other marks hold a position. Where it is not, enough lists agree
-- with it, and those that may hold another position are too few.
abbrev pub Decides : (x need alike apart same : ℕ) → Type 0
Decides zero need alike apart same = apart < need
Decides (suc w) need alike apart same = (need ≤ same) × (alike + apart < same + need)

-- The cell x of the reference is a position, and no position is decided on: those that may hold it are too few, and so are those that may
-- hold another.
abbrev pub Lacks : (x need alike apart same : ℕ) → Type 0
Lacks x need alike apart same = (0 < x) × (same + apart < need) × (alike + apart < same + need)
