-- What the links give a receiver in a confession round, and the facts on its trusted entries that follow. A link whose head was struck in neither
-- round gives its list, the same to every receiver. At most f others confess, and at most f give what they like. So what stands in every list has
-- support n - f or more, and what stands in none at most 2f; and since an honest list has one entry for head j, two receivers can trust two positions
-- for it only in a small ring.
use Rattle.std.specs.Prelude.{None, Some}
use mathlib.Core.Path.{◌≡◌, refl, sym, ◌∙◌}
use mathlib.Core.List.{[], ◌∷◌}
use mathlib.Core.Logic.{◌≢◌}
use mathlib.Core.Bool.{Bool, true, false, true≢false}
use Prim.Native.Nat.{ℕ, ◌+◌, ◌-◌, ◌*◌, ◌≤◌, ◌<◌}
use native.Mathlib.Omega.{arith}
use lib.IntN.{ℤ, ℤ_discrete}
use Rattle.terms.specs.Positions.{eq_z}
use Rattle.terms.specs.Entry.{Entry}
use Rattle.terms.specs.Counting.{Each, sum, bit}
use Rattle.convergence.specs.Trust.{Given, nothing, confessed, gave, is, supports, support, has_confessed, Only, trusted}
use Rattle.convergence.specs.Phases.{End, Faults, gives, list_of, given_to}
use Rattle.terms.proofs.Sums.{sums_le, sum_one, bit_le}
use Rattle.convergence.proofs.Support.{same_position, not_null, is_same, is_other, trusted_is, trusted_only}
use Rattle.convergence.proofs.OnePhase.{Fact, Facts, both, TwoFaced, Limits}

-- ---- at one link: c, d: its head was struck in the collection round, in the confession round; l: its list; g: what it likes

abbrev given : Bool → Bool → (ℕ → Entry) → Given → Given
given c d l g = gives d c g confessed (gave l)

pub is_le : (u : ℤ) (x : Entry) → is u x ≤ 1
is_le u None = omega arith
is_le u (Some w) = bit_le (eq_z u w)

pub supports_le : (j : ℕ) (u : ℤ) (g : Given) → supports j u g ≤ 1
supports_le j u nothing = omega arith
supports_le j u confessed = omega arith
supports_le j u (gave l) = is_le u (l j)

-- a link supports what stands in its list, unless it is struck
own_point : (j : ℕ) (u : ℤ) (c d : Bool) (l : ℕ → Entry) (g : Given) → l j ≡ Some u → 1 ≤ supports j u (given c d l g) + bit d
own_point j u c true l g h = omega arith
own_point j u true false l g h = omega arith
own_point j u false false l g h = rw h (omega (arith, is_same u))

-- and nothing else, unless it confesses or is struck
other_point : (j : ℕ) (u : ℤ) (c d : Bool) (l : ℕ → Entry) (g : Given) → (l j ≡ Some u → ⊥) → supports j u (given c d l g) ≤ bit c + bit d
other_point j u c true l g h = omega (arith, supports_le j u g)
other_point j u true false l g h = omega arith
other_point j u false false l g h = omega (arith, is_other u (l j) h)

one_position : (u w : ℤ) (x : Entry) → u ≢ w → is u x + is w x ≤ 1
one_position u w None h = omega arith
one_position u w (Some y) h = go (ℤ_discrete u y)
  where
    go : Dec (u ≡ y) → is u (Some y) + is w (Some y) ≤ 1
    go (yes e) = omega (arith, is_le u (Some y), is_other w (Some y) (λ q. h (e ∙ same_position q refl)))
    go (no e) = omega (arith, is_other u (Some y) (λ q. e (sym (same_position q refl))), is_le w (Some y))

-- at two receivers an unstruck link supports one position for head j
face_point : (j : ℕ) (u w : ℤ) (c d : Bool) (l : ℕ → Entry) (g g' : Given) → u ≢ w
    → supports j u (given c d l g) + supports j w (given c d l g') + both c d ≤ 1 + bit c + bit d
face_point j u w false false l g g' h = omega (arith, one_position u w (l j) h)
face_point j u w true false l g g' h = omega arith
face_point j u w false true l g g' h = omega (arith, supports_le j u g, supports_le j w g')
face_point j u w true true l g g' h = omega (arith, supports_le j u g, supports_le j w g')

-- ---- the sums; v: the positions of the heads that were sound at the phase's start

module _ (n f : ℕ) (e : End) (F : Faults) (v : ℕ → ℤ) (L : Limits n f F.struck_in_collection F.struck_in_confession e.struck)
    (H : Each n (λ j. e.struck j ≡ false → e.at j ≡ Some (v j))) where
  module _ (i : ℕ) where
    -- u stands in every list for head j
    agreed : (j : ℕ) (u : ℤ) → ((k : ℕ) → list_of e F k j ≡ Some u) → n ≤ support n (given_to e F i) j u + f
    unfolding support given_to
    agreed j u h =
        omega (
          arith,
          sum_one n,
          sums_le n ((λ k. 1) ∷ []) ((λ k. supports j u (given_to e F i k)) ∷ (λ k. bit (F.struck_in_confession k)) ∷ [])
              (λ k l. omega (arith, own_point j u (F.struck_in_collection k) (F.struck_in_confession k) (list_of e F k) (F.replied k i) (h k))),
        )

    -- u stands in no list for head j
    unheard : (j : ℕ) (u : ℤ) → ((k : ℕ) → list_of e F k j ≡ Some u → ⊥) → support n (given_to e F i) j u ≤ 2 * f
    unfolding support given_to
    unheard j u h =
        omega (
          arith,
          sums_le n ((λ k. supports j u (given_to e F i k)) ∷ []) ((λ k. bit (F.struck_in_collection k)) ∷ (λ k. bit (F.struck_in_confession k)) ∷ [])
              (λ k l. omega (arith, other_point j u (F.struck_in_collection k) (F.struck_in_confession k) (list_of e F k) (F.replied k i) (h k))),
        )

    only_agreed : (j : ℕ) (u : ℤ) → ((k : ℕ) → list_of e F k j ≡ Some u) → Only n f (given_to e F i) j u
    only_agreed j u h = record { reaches = omega (arith, agreed j u h); alone = λ w r. go w r (ℤ_discrete w u) }
      where
        go : (w : ℤ) → n - f ≤ support n (given_to e F i) j w → Dec (w ≡ u) → w ≡ u
        go w r (yes z) = z
        go w r (no z) = absurd (omega (arith, unheard j w (λ k q. z (same_position (h k) q))))

    -- ---- what is known of the trusted entry of head j

    module _ (j : ℕ) (l : j < n) where
      healthy : F.struck_in_collection j ≡ false → e.struck j ≡ false → (k : ℕ) → list_of e F k j ≡ Some (v j)
      unfolding list_of
      healthy qc qp k = rw (qc, qp) (H j l qp)

      healed : F.struck_in_collection j ≡ false → e.struck j ≡ true → (k : ℕ) → list_of e F k j ≡ None
      unfolding list_of
      healed qc qp k = rw (qc, qp)

      unconfessed : F.struck_in_collection j ≡ false → F.struck_in_confession j ≡ false → has_confessed (given_to e F i j) ≡ false
      unfolding given_to
      unconfessed qc qd = rw (qc, qd)

      confesses : F.struck_in_collection j ≡ true → F.struck_in_confession j ≡ false → has_confessed (given_to e F i j) ≡ true
      unfolding given_to
      confesses qc qd = rw (qc, qd)

      same_trusted : (u : ℤ) → F.struck_in_collection j ≡ false → e.struck j ≡ false → trusted n f (given_to e F i) j ≡ Some u → u ≡ v j
      same_trusted u qc qp q = sym ((trusted_only n f (given_to e F i) j u q).0.alone (v j) (only_agreed j (v j) (healthy qc qp)).reaches)

      fact_of : (c d p : Bool) (x : Entry) → F.struck_in_collection j ≡ c → F.struck_in_confession j ≡ d → e.struck j ≡ p → trusted n f (given_to e F i) j ≡ x → Fact c d p (v j) x
      fact_of false false false None qc qd qp q =
          not_null q (trusted_is n f (given_to e F i) j (v j) (only_agreed j (v j) (healthy qc qp)) (unconfessed qc qd))
      fact_of false false false (Some u) qc qd qp q = same_trusted u qc qp q
      fact_of false true false None qc qd qp q = tt
      fact_of false true false (Some u) qc qd qp q = same_trusted u qc qp q
      fact_of false d true None qc qd qp q = tt
      fact_of false d true (Some u) qc qd qp q =
          omega (arith, (trusted_only n f (given_to e F i) j u q).0.reaches, unheard j u (λ k r. not_null (healed qc qp k) r))
      fact_of true false p None qc qd qp q = tt
      fact_of true false p (Some u) qc qd qp q = true≢false (sym (confesses qc qd) ∙ (trusted_only n f (given_to e F i) j u q).1)
      fact_of true true p x qc qd qp q = tt

    pub facts : Facts n F.struck_in_collection F.struck_in_confession e.struck v (trusted n f (given_to e F i))
    facts j l = fact_of j l (F.struck_in_collection j) (F.struck_in_confession j) (e.struck j) (trusted n f (given_to e F i) j) refl refl refl refl

  -- two receivers trust two positions for one head only if n and the heads struck in both rounds are at most 4f
  pub two_faced : (i i' : ℕ)
      → Each n (λ j. TwoFaced (trusted n f (given_to e F i) j) (trusted n f (given_to e F i') j) → n + sum n (λ k. both (F.struck_in_collection k) (F.struck_in_confession k)) ≤ 4 * f)
  unfolding support given_to
  two_faced i i' j l t =
      omega (
        arith,
        sum_one n,
        (trusted_only n f (given_to e F i) j t.0 t.2).0.reaches,
        (trusted_only n f (given_to e F i') j t.1 t.3).0.reaches,
        sums_le n ((λ k. supports j t.0 (given_to e F i k)) ∷ (λ k. supports j t.1 (given_to e F i' k)) ∷ (λ k. both (F.struck_in_collection k) (F.struck_in_confession k)) ∷ [])
            ((λ k. 1) ∷ (λ k. bit (F.struck_in_collection k)) ∷ (λ k. bit (F.struck_in_confession k)) ∷ [])
            (λ k m. omega (arith, face_point j t.0 t.1 (F.struck_in_collection k) (F.struck_in_confession k) (list_of e F k) (F.replied k i) (F.replied k i') t.4)),
      )
