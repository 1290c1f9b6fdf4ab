-- Document 01, "Points on the ring": the starred points as one table, and one theorem that they all hold, which is computed.
use Rattle.std.specs.Prelude.{◌≡◌, ℕ, ◌-◌, List, [], ◌∷◌, ℤ, pos, negsuc, slice_index_or, refl, None, Some}
use Rattle.std.proofs.Common.{arith}
use Rattle.terms.specs.Positions.{floor_div, half, eq_z, rounding}
use Rattle.terms.specs.Sizes.{is_count, is_limit, size_refusal}
use Rattle.terms.specs.Entry.{Entry}
use Rattle.terms.specs.declared.Family.TheVariants.{TwoRounds}
use Rattle.terms.specs.Counting.{sum}
use Rattle.convergence.specs.Settling.{nulls, trim, two_round_rule, insert, ordered, low_kept, high_kept, middle, enough}
use Rattle.convergence.specs.Trust.{Given, nothing, confessed, gave, support, confessions, seen, trusted}
use Rattle.convergence.specs.Demand3.{Halves}
use Rattle.settle_midpoint.specs.Answers.{settling, settled_number, settled_entry}

-- n heads, struck limit f, and what the rules answer. Document 01's points count as phase 1 (document 02, A7); beside each odd sum is the
-- same point in phase 2.
pub data Point : Type 0 where
  taken : ℕ → ℕ → Point
  refused : ℕ → ℕ → ℕ → Point  -- with the number
  halving : ℕ → ℕ → Point
  no_halving : ℕ → ℕ → Point
  settles : ℕ → ℕ → ℕ → List Entry → ℤ → Point  -- in a phase: trusted entries, new position
  too_few : ℕ → ℕ → List Entry → Point  -- 25
  trusts : ℕ → ℕ → List Given → ℕ → Entry → Point  -- what the links gave, a head, its trusted entry

abbrev pub table : List Entry → ℕ → Entry
table l j = slice_index_or l j None

abbrev pub links : List Given → ℕ → Given
links l k = slice_index_or l k nothing

abbrev pub PointHolds : Point → Type 0
PointHolds (taken n f) = size_refusal TwoRounds n f ≡ 0
PointHolds (refused n f c) = size_refusal TwoRounds n f ≡ c
PointHolds (halving n f) = Halves TwoRounds n f
PointHolds (no_halving n f) = Halves TwoRounds n f → ⊥
PointHolds (settles p n f l v) = settled_entry (settling (rounding p) n (two_round_rule f) (table l)) ≡ Some v
PointHolds (too_few n f l) = settled_number (settling (rounding 1) n (two_round_rule f) (table l)) ≡ 25
PointHolds (trusts n f l j e) = trusted n f (links l) j ≡ e

abbrev pub All : List Point → Type 0
All [] = Unit {0}
All (p ∷ ps) = PointHolds p × All ps

abbrev at : ℕ → Entry
at n = Some (pos n)

-- n below zero, n from 1 up
abbrev below : ℕ → Entry
below n = Some (negsuc (n - 1))

abbrev pub starred : List Point
starred =
    taken 1 0
    ∷ taken 5 1
    ∷ taken 8 2
    ∷ taken 32 8
    ∷ refused 4 1 2
    ∷ refused 7 2 2
    ∷ refused 11 3 2
    ∷ refused 32 9 2
    ∷ halving 5 1
    ∷ halving 9 2
    ∷ halving 12 3
    ∷ halving 23 6
    ∷ no_halving 8 2
    ∷ no_halving 22 6
    ∷ settles 1 5 1 (at 10 ∷ at 20 ∷ at 30 ∷ at 40 ∷ None ∷ []) (pos 25)
    ∷ settles 1 5 1 (at 10 ∷ at 20 ∷ at 30 ∷ None ∷ None ∷ []) (pos 20)
    ∷ settles 1 5 1 (at 10 ∷ at 20 ∷ None ∷ None ∷ None ∷ []) (pos 15)
    ∷ too_few 5 1 (at 10 ∷ None ∷ None ∷ None ∷ None ∷ [])
    ∷ settles 1 5 1 (at 0 ∷ at 0 ∷ at 0 ∷ at 1 ∷ at 1 ∷ []) (pos 0)
    ∷ settles 2 5 1 (at 0 ∷ at 0 ∷ at 0 ∷ at 1 ∷ at 1 ∷ []) (pos 1)
    ∷ settles 1 5 1 (below 3 ∷ below 3 ∷ below 2 ∷ below 2 ∷ below 2 ∷ []) (negsuc 2)
    ∷ settles 2 5 1 (below 3 ∷ below 3 ∷ below 2 ∷ below 2 ∷ below 2 ∷ []) (negsuc 1)
    ∷ settles 1 1 0 (at 7 ∷ []) (pos 7)
    ∷ trusts 5 1 (gave (table (at 10 ∷ [])) ∷ gave (table (at 20 ∷ [])) ∷ confessed ∷ confessed ∷ confessed ∷ []) 0 None
    ∷ []

pub starred_hold : All starred
unfolding is_count is_limit settling nulls trim insert ordered low_kept high_kept middle enough half floor_div rounding sum support confessions seen trusted eq_z
starred_hold = (
  refl,
  (
    refl,
    (
      refl,
      (
        refl,
        (
          refl,
          (
            refl,
            (
              refl,
              (
                refl,
                (
                  omega arith,
                  (
                    omega arith,
                    (
                      omega arith,
                      (
                        omega arith,
                        (
                          (λ h. omega arith),
                          (
                            (λ h. omega arith),
                            (refl, (refl, (refl, (refl, (refl, (refl, (refl, (refl, (refl, (refl, tt)))))))))),
                          ),
                        ),
                      ),
                    ),
                  ),
                ),
              ),
            ),
          ),
        ),
      ),
    ),
  ),
)
