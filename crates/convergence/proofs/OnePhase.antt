-- One phase, at its receivers. From what is known of their trusted entries (`Fact`, which `Links` proves) it follows by counting that no receiver
-- has more than 3f nulls, that something is kept, that the new position lies between the sound ones of before, and that two receivers end no further
-- apart than half of these, rounded up. Each count is an inequality at one index (the lemmas named -point), summed over all.
use Rattle.std.specs.Prelude.{None, Some}
use mathlib.Core.Path.{◌≡◌, refl, sym, ◌∙◌}
use mathlib.Core.List.{[], ◌∷◌}
use mathlib.Core.Logic.{◌≢◌, by_cases}
use mathlib.Core.Bool.{Bool, true, false}
use Prim.Native.Nat.{ℕ, ◌+◌, ◌*◌, ◌≤◌, ◌<◌}
use native.Mathlib.Omega.{arith}
use native.Mathlib.Decide.{dec_le}
use borrow.Author.Tests.{le-leb, lt-leb}
use lib.IntN.{ℤ, ℤ_discrete}
use lib.Signed.{le_z, ◌≤ℤ◌, ◌<ℤ◌}
use Rattle.terms.specs.Entry.{Entry}
use Rattle.terms.proofs.Whole.{arithZ, not_le, dec_le_z}
use Rattle.terms.specs.Counting.{Each, sum, bit, AtMost}
use Rattle.terms.specs.declared.Family.TheVariants.{TwoRounds}
use Rattle.convergence.specs.Settling.{is_null, nulls, trim, two_round_rule}
use Rattle.convergence.specs.Demand3.{AcceptedSize, Halves}
use Rattle.terms.proofs.Sums.{sums_le, sum_one, sum_none, bit_le}
use Rattle.convergence.proofs.Order.{passes, gt_fails}
use Rattle.convergence.proofs.Kept.{low, high, Holds, the_kept}

-- What is known of a trusted entry of head j, by whether j was struck in this collection round (c), in this confession round (d) and in the
-- confession round of the phase before (p), with v the position of j at the phase's start, if it was sound.
abbrev pub Fact : Bool → Bool → Bool → ℤ → Entry → Type 0
Fact false false false v None = ⊥
Fact false false false v (Some u) = u ≡ v
Fact false true false v None = Unit {0}
Fact false true false v (Some u) = u ≡ v
Fact false d true v None = Unit {0}
Fact false d true v (Some u) = ⊥
Fact true false p v None = Unit {0}
Fact true false p v (Some u) = ⊥
Fact true true p v e = Unit {0}

-- 1 at a head struck in both rounds
abbrev pub both : Bool → Bool → ℕ
both true d = bit d
both false d = 0

-- 1 at an entry that a liar chose: such a head's, if it is not null
abbrev pub liar : Bool → Bool → Entry → ℕ
liar c d None = 0
liar c d (Some u) = both c d

-- what two receivers trust of one head: two positions, and not the same
abbrev pub TwoFaced : Entry → Entry → Type 0
TwoFaced e e' = (u : ℤ) × (w : ℤ) × (e ≡ Some u) × (e' ≡ Some w) × (u ≢ w)

-- ---- at one index

-- an entry that a liar chose took two strikes, and a null one
null_point : (c d p : Bool) (v : ℤ) (e : Entry) → Fact c d p v e → 2 * liar c d e + is_null e ≤ bit p + bit c + bit d
null_point false false false v None h = absurd h
null_point false false false v (Some u) h = omega arith
null_point false true false v None h = omega arith
null_point false true false v (Some u) h = omega arith
null_point false d true v None h = omega arith
null_point false d true v (Some u) h = absurd h
null_point true false p v None h = omega arith
null_point true false p v (Some u) h = absurd h
null_point true true p v None h = omega arith
null_point true true p v (Some u) h = omega arith

pub liar_point : (c d : Bool) (e : Entry) → liar c d e ≤ bit d
liar_point c d None = omega arith
liar_point false d (Some u) = omega arith
liar_point true d (Some u) = omega arith

-- a test that no position from m to M passes is passed by entries that a liar chose only
pub outside_point : (m M : ℤ) (q : ℤ → Bool) → ((u : ℤ) → m ≤ℤ u → u ≤ℤ M → bit (q u) ≡ 0)
    → (c d p : Bool) (v : ℤ) (e : Entry) → Fact c d p v e → (p ≡ false → (m ≤ℤ v) × (v ≤ℤ M)) → passes q e ≤ liar c d e
outside_point m M q k c d p v None h w = omega arith
outside_point m M q k false false false v (Some u) h w = rw h (omega (arith, k v (w refl).0 (w refl).1))
outside_point m M q k false true false v (Some u) h w = rw h (omega (arith, k v (w refl).0 (w refl).1))
outside_point m M q k false d true v (Some u) h w = absurd h
outside_point m M q k true false p v (Some u) h w = absurd h
outside_point m M q k true true p v (Some u) h w = bit_le (q u)

-- no position is both at most h and at least l
pub not_both : (h l u w : ℤ) → h <ℤ l → u ≡ w → bit (le_z u h) + bit (le_z l w) ≤ 1
not_both h l u w k e = go (dec_le_z u h)
  where
    go : Dec (u ≤ℤ h) → bit (le_z u h) + bit (le_z l w) ≤ 1
    go (yes q) = omega (arith, bit_le (le_z u h), gt_fails {a = l} {b = w} (omega arithZ))
    go (no q) = omega (arith, bit_le (le_z l w), gt_fails {a = u} {b = h} (not_le q))

-- What an entry weighs at two receivers, with h below l: twice if it is at most h at the one, twice if it is at least l at the other, and once
-- for each null. Only that of a head struck in confession weighs more than 2, and only a two-faced one more than 3; t bounds these.
abbrev weight : ℤ → ℤ → Entry → Entry → ℕ
weight h l e e' = 2 * passes (λ u. le_z u h) e + is_null e + 2 * passes (λ u. le_z l u) e' + is_null e'

one_null : (h l u : ℤ) → (weight h l None (Some u) ≤ 3) × (weight h l (Some u) None ≤ 3)
one_null h l u = omega (arith, bit_le (le_z u h), bit_le (le_z l u))

module _ (h l : ℤ) (k : h <ℤ l) (t : ℕ) where
  two_faced_point : (u w : ℤ) → (u ≢ w → 1 ≤ t) → weight h l (Some u) (Some w) ≤ 3 + t
  two_faced_point u w f = go (ℤ_discrete u w)
    where
      go : Dec (u ≡ w) → weight h l (Some u) (Some w) ≤ 3 + t
      go (yes q) = omega (arith, not_both h l u w k q)
      go (no q) = omega (arith, bit_le (le_z u h), bit_le (le_z l w), f q)

  weight_point : (c d p : Bool) (v : ℤ) (e e' : Entry) → Fact c d p v e → Fact c d p v e' → (c ≡ true → d ≡ true → TwoFaced e e' → 1 ≤ t)
      → weight h l e e' ≤ 2 + bit d + t
  weight_point c d p v None None x y f = omega arith
  weight_point false false false v None (Some w) x y f = absurd x
  weight_point false false false v (Some u) None x y f = absurd y
  weight_point false false false v (Some u) (Some w) x y f = omega (arith, not_both h l u w k (x ∙ sym y))
  weight_point false true false v None (Some w) x y f = omega (arith, one_null h l w)
  weight_point false true false v (Some u) None x y f = omega (arith, one_null h l u)
  weight_point false true false v (Some u) (Some w) x y f = omega (arith, not_both h l u w k (x ∙ sym y))
  weight_point false d true v None (Some w) x y f = absurd y
  weight_point false d true v (Some u) e' x y f = absurd x
  weight_point true false p v None (Some w) x y f = absurd y
  weight_point true false p v (Some u) e' x y f = absurd x
  weight_point true true p v None (Some w) x y f = omega (arith, one_null h l w)
  weight_point true true p v (Some u) None x y f = omega (arith, one_null h l u)
  weight_point true true p v (Some u) (Some w) x y f = two_faced_point u w (λ q. f refl refl (u, w, refl, refl, q))

-- ---- the trim

-- It covers what liars can choose, and is no higher than rounding makes it; the last bound serves f = 0, where the rounding adds nothing.
record Trimmed (f z t : ℕ) : Type 0 where
  covers : (x : ℕ) → 2 * x + z ≤ 3 * f → x ≤ f → x ≤ t
  small : 2 * t + z ≤ 3 * f + 1
  fourfold : 2 * t + z ≤ 4 * f

trimmed : (f z : ℕ) → z ≤ 3 * f → Trimmed f z (trim f z)
unfolding trim
trimmed f z h = by_cases (dec_le z f) (λ k. rw le-leb (omega arith)) (λ k. let l : f < z = omega arith in rw lt-leb (omega arith))

-- ---- one receiver

-- the ring is within its limits
pub record Limits (n f : ℕ) (c d p : ℕ → Bool) : Type 0 where
  pub size : AcceptedSize TwoRounds n f
  pub few_c : AtMost f n c
  pub few_d : AtMost f n d
  pub few_p : AtMost f n p

abbrev pub Facts : ℕ → (ℕ → Bool) → (ℕ → Bool) → (ℕ → Bool) → (ℕ → ℤ) → (ℕ → Entry) → Type 0
Facts n c d p v E = Each n (λ j. Fact (c j) (d j) (p j) (v j) (E j))

-- the sound positions lie between m and M
abbrev pub Between : ℕ → (ℕ → Bool) → (ℕ → ℤ) → ℤ → ℤ → Type 0
Between n p v m M = Each n (λ j. p j ≡ false → (m ≤ℤ v j) × (v j ≤ℤ M))

-- whatever the entries are, if they are not refused: one is kept
pub keeps_one : (n f : ℕ) → AcceptedSize TwoRounds n f → (E : ℕ → Entry) → nulls n E ≤ 3 * f → 2 * trim f (nulls n E) + nulls n E < n
keeps_one n f size E few = let T = trimmed f (nulls n E) few in omega (arith, T.small, T.fourfold)

module _ (n f : ℕ) (c d p : ℕ → Bool) (v : ℕ → ℤ) (L : Limits n f c d p) where
  module _ (E : ℕ → Entry) (A : Facts n c d p v E) where
    liars_and_nulls : 2 * sum n (λ j. liar (c j) (d j) (E j)) + nulls n E ≤ 3 * f
    unfolding nulls
    liars_and_nulls =
        let X : ℕ → ℕ = λ j. liar (c j) (d j) (E j) in
        omega (
          arith,
          sums_le n (X ∷ X ∷ (λ j. is_null (E j)) ∷ []) ((λ j. bit (p j)) ∷ (λ j. bit (c j)) ∷ (λ j. bit (d j)) ∷ [])
              (λ j l. omega (arith, null_point (c j) (d j) (p j) (v j) (E j) (A j l))),
        )

    -- refusal 25 does not happen
    pub few_nulls : nulls n E ≤ 3 * f
    few_nulls = omega (arith, liars_and_nulls)

    the_trim : Trimmed f (nulls n E) (trim f (nulls n E))
    the_trim = trimmed f (nulls n E) few_nulls

    some_kept : 2 * trim f (nulls n E) + nulls n E < n
    some_kept = keeps_one n f L.size E few_nulls

    -- a liar chose no more entries than are dropped at either end
    few_liars : sum n (λ j. liar (c j) (d j) (E j)) ≤ trim f (nulls n E)
    few_liars =
        the_trim.covers _ liars_and_nulls
        (omega (
          arith,
          sums_le n ((λ j. liar (c j) (d j) (E j)) ∷ []) ((λ j. bit (d j)) ∷ []) (λ j l. omega (arith, liar_point (c j) (d j) (E j))),
        ))

    -- so an end kept cannot lie outside the sound positions
    pub holds : (m M : ℤ) → Between n p v m M → Holds n (two_round_rule f) m M E
    holds m M B =
        record {
          few = few_nulls;
          some = some_kept;
          outside =
              λ q k. omega (
                arith,
                few_liars,
                sums_le n ((λ j. passes q (E j)) ∷ []) ((λ j. liar (c j) (d j) (E j)) ∷ [])
                    (λ j l. omega (arith, outside_point m M q k (c j) (d j) (p j) (v j) (E j) (A j l) (B j l))),
              );
        }

  -- ---- two receivers

  -- Besides the facts on each: a head may be two-faced between them only if n + Σ c d is at most 4f (`two_faced` of `Links`).
  module _ (E E' : ℕ → Entry) (A : Facts n c d p v E) (A' : Facts n c d p v E')
      (fourth : Each n (λ j. TwoFaced (E j) (E' j) → n + sum n (λ k. both (c k) (d k)) ≤ 4 * f)) (large : Halves TwoRounds n f) where
    -- what all entries weigh, with t j at least 1 if head j is two-faced
    weigh : (h l : ℤ) → h <ℤ l → (t : ℕ → ℕ) → Each n (λ j. c j ≡ true → d j ≡ true → TwoFaced (E j) (E' j) → 1 ≤ t j)
        → 2 * sum n (λ j. passes (λ u. le_z u h) (E j)) + nulls n E + 2 * sum n (λ j. passes (λ u. le_z l u) (E' j)) + nulls n E'
        ≤ 2 * n + sum n (λ j. bit (d j)) + sum n t
    unfolding nulls
    weigh h l k t w =
        let U : ℕ → ℕ = λ j. passes (λ u. le_z u h) (E j) in
        let W : ℕ → ℕ = λ j. passes (λ u. le_z l u) (E' j) in
        let one : ℕ → ℕ = λ j. 1 in
        omega (
          arith,
          sum_one n,
          sums_le n (U ∷ U ∷ (λ j. is_null (E j)) ∷ W ∷ W ∷ (λ j. is_null (E' j)) ∷ []) (one ∷ one ∷ (λ j. bit (d j)) ∷ t ∷ [])
              (λ j q. omega (arith, weight_point h l k (t j) (c j) (d j) (p j) (v j) (E j) (E' j) (A j q) (A' j q) (w j q))),
        )

    -- All but t of the positions at the one are at most `high`, and all but t' at the other at least `low`. With `low` above `high` they weigh more
    -- than they can.
    pub no_gap : high n (two_round_rule f) E <ℤ low n (two_round_rule f) E' → ⊥
    no_gap k = go (dec_le (n + sum n (λ j. both (c j) (d j))) (4 * f))
      where
        hi : ℤ
        hi = high n (two_round_rule f) E

        lo : ℤ
        lo = low n (two_round_rule f) E'

        Weighs : ℕ → Type 0
        Weighs x =
            4 * n ≤ 2 * sum n (λ j. passes (λ u. le_z u hi) (E j)) + nulls n E + 2 * sum n (λ j. passes (λ u. le_z lo u) (E' j)) + nulls n E' + x

        heavy : Weighs (6 * f + 2) × Weighs (8 * f)
        heavy =
            let T = the_trim E A in
            let T' = the_trim E' A' in
            omega (arith, (the_kept n (two_round_rule f) E (some_kept E A)).upto_high, (the_kept n (two_round_rule f) E' (some_kept E' A')).from_low)

        go : Dec (n + sum n (λ j. both (c j) (d j)) ≤ 4 * f) → ⊥
        go (yes q) = omega (arith, heavy, weigh _ _ k (λ j. both (c j) (d j)) (λ j l x y w. rw (x, y) (omega arith)))
        go (no q) = omega (arith, heavy, sum_none n, weigh _ _ k (λ j. 0) (λ j l x y w. absurd (q (fourth j l w))))
