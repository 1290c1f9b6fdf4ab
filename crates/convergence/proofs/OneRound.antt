-- A phase of one round, at its receivers (document 02, A9). A head struck in the round counts as one struck in both rounds of a phase, so what is known of an
-- entry is `Fact` with d for c. Nulls are at most 2f and liars at most f; and at a head struck neither in this round nor in the one before both receivers have one
-- position, so that with n at least 4f + 1 the kept ranges of two receivers meet.
use Rattle.std.specs.Prelude.{None, Some}
use mathlib.Core.Path.{◌≡◌, refl, sym, ◌∙◌}
use mathlib.Core.List.{[], ◌∷◌}
use mathlib.Core.Bool.{Bool, true, false}
use Prim.Native.Nat.{ℕ, ◌+◌, ◌*◌, ◌≤◌, ◌<◌}
use native.Mathlib.Omega.{arith}
use lib.IntN.{ℤ}
use lib.Signed.{le_z, ◌<ℤ◌}
use Rattle.terms.specs.Entry.{Entry}
use Rattle.terms.specs.declared.Family.TheVariants.{OneRound}
use Rattle.terms.specs.Counting.{Each, sum, bit, AtMost}
use Rattle.convergence.specs.Settling.{is_null, nulls, one_round_rule}
use Rattle.convergence.specs.Phases.{End, Faults, gives, heard_from}
use Rattle.convergence.specs.Demand3.{AcceptedSize}
use Rattle.terms.proofs.Sums.{sums_le, sum_one, bit_le}
use Rattle.convergence.proofs.Order.{passes}
use Rattle.convergence.proofs.Kept.{low, high, Holds, the_kept}
use Rattle.convergence.proofs.OnePhase.{Fact, Facts, Between, liar, liar_point, outside_point, not_both}

-- ---- at one index

null_point : (d p : Bool) (v : ℤ) (e : Entry) → Fact d d p v e → is_null e ≤ bit p + bit d
null_point false false v None h = absurd h
null_point false false v (Some u) h = omega arith
null_point false true v None h = omega arith
null_point false true v (Some u) h = omega arith
null_point true p v None h = omega arith
null_point true p v (Some u) h = omega arith

-- an entry is null, or passes a test, or neither
one_way : (q : ℤ → Bool) (e : Entry) → passes q e + is_null e ≤ 1
one_way q None = omega arith
one_way q (Some u) = omega (arith, bit_le (q u))

-- with h below l: at most h at the one, at least l at the other, or null
pair_point : (h l : ℤ) → h <ℤ l → (d p : Bool) (v : ℤ) (e e' : Entry) → Fact d d p v e → Fact d d p v e'
    → passes (λ u. le_z u h) e + is_null e + passes (λ u. le_z l u) e' + is_null e' ≤ 1 + bit p + bit d
pair_point h l k false false v None e' x y = absurd x
pair_point h l k false false v (Some u) None x y = absurd y
pair_point h l k false false v (Some u) (Some w) x y = omega (arith, not_both h l u w k (x ∙ sym y))
pair_point h l k false true v e e' x y = omega (arith, one_way (λ u. le_z u h) e, one_way (λ u. le_z l u) e')
pair_point h l k true p v e e' x y = omega (arith, one_way (λ u. le_z u h) e, one_way (λ u. le_z l u) e')

-- ---- the sums

-- whatever the entries are, if they are not refused: one is kept
pub keeps_one : (n f : ℕ) → AcceptedSize OneRound n f → (E : ℕ → Entry) → nulls n E ≤ 2 * f → 2 * f + nulls n E < n
keeps_one n f size E few = omega arith

module _ (n f : ℕ) (d p : ℕ → Bool) (v : ℕ → ℤ) (size : AcceptedSize OneRound n f) (few_d : AtMost f n d) (few_p : AtMost f n p) where
  module _ (E : ℕ → Entry) (A : Facts n d d p v E) where
    -- refusal 25 does not happen
    pub few_nulls : nulls n E ≤ 2 * f
    unfolding nulls
    few_nulls =
        omega (
          arith,
          sums_le n ((λ j. is_null (E j)) ∷ []) ((λ j. bit (p j)) ∷ (λ j. bit (d j)) ∷ [])
              (λ j l. omega (arith, null_point (d j) (p j) (v j) (E j) (A j l))),
        )

    some_kept : 2 * f + nulls n E < n
    some_kept = keeps_one n f size E few_nulls

    few_liars : sum n (λ j. liar (d j) (d j) (E j)) ≤ f
    few_liars =
        omega (
          arith,
          sums_le n ((λ j. liar (d j) (d j) (E j)) ∷ []) ((λ j. bit (d j)) ∷ []) (λ j l. omega (arith, liar_point (d j) (d j) (E j))),
        )

    pub holds : (m M : ℤ) → Between n p v m M → Holds n (one_round_rule f) m M E
    holds m M B =
        record {
          few = few_nulls;
          some = some_kept;
          outside =
              λ q k. omega (
                arith,
                few_liars,
                sums_le n ((λ j. passes q (E j)) ∷ []) ((λ j. liar (d j) (d j) (E j)) ∷ [])
                    (λ j l. omega (arith, outside_point m M q k (d j) (d j) (p j) (v j) (E j) (A j l) (B j l))),
              );
        }

  -- two receivers
  pub no_gap : (E E' : ℕ → Entry) → Facts n d d p v E → Facts n d d p v E' → high n (one_round_rule f) E <ℤ low n (one_round_rule f) E' → ⊥
  unfolding nulls
  no_gap E E' A A' k =
      let hi : ℤ = high n (one_round_rule f) E in
      let lo : ℤ = low n (one_round_rule f) E' in
      omega (
        arith,
        sum_one n,
        (the_kept n (one_round_rule f) E (some_kept E A)).upto_high,
        (the_kept n (one_round_rule f) E' (some_kept E' A')).from_low,
        sums_le n
            ((λ j. passes (λ u. le_z u hi) (E j)) ∷ (λ j. is_null (E j)) ∷ (λ j. passes (λ u. le_z lo u) (E' j)) ∷ (λ j. is_null (E' j)) ∷ [])
            ((λ j. 1) ∷ (λ j. bit (p j)) ∷ (λ j. bit (d j)) ∷ [])
            (λ j l. omega (arith, pair_point hi lo k (d j) (p j) (v j) (E j) (E' j) (A j l) (A' j l))),
      )

-- ---- what a receiver hears

fact_point : (d p : Bool) (v : ℤ) (sent x : Entry) → (p ≡ false → x ≡ Some v) → Fact d d p v (gives d p sent None x)
fact_point true p v sent x h = tt
fact_point false true v sent x h = tt
fact_point false false v sent x h = rw (h refl) refl

pub facts : (n : ℕ) (e : End) (F : Faults) (v : ℕ → ℤ) → Each n (λ j. e.struck j ≡ false → e.at j ≡ Some (v j))
    → (i : ℕ) → Facts n F.struck_in_confession F.struck_in_confession e.struck v (heard_from F.struck_in_confession e F i)
facts n e F v H i j l = fact_point (F.struck_in_confession j) (e.struck j) (v j) (F.sent j i) (e.at j) (H j l)
