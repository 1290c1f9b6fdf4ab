-- The heads never learn of the listeners: their records are the same whichever listeners are struck and whatever is planted to them. A round looks at the marks of
-- heads, at their records and at what is planted from head to head, and at nothing else.
use mathlib.Core.Path.{◌≡◌, refl, ap₂}
use mathlib.Core.List.{List, [], ◌∷◌}
use Prim.Native.Nat.{ℕ, zero, suc, ◌+◌, ◌<◌}
use native.Mathlib.Omega.{arith}
use lib.IntN.{ℤ}
use Rattle.terms.specs.declared.Family.{Family}
use Rattle.marks.specs.Marks.{bit_of}
use Rattle.terms.specs.Counting.{Each}
use Rattle.head_spec.specs.Calls.{Delivery, on_links, hear_all}
use Rattle.ring_spec.specs.Rounds.{Round, planted, Ring, opened_at, carried, closed_at, after_round, ring_after}

-- two rounds that are the same to n heads
pub record SameToHeads (n : ℕ) (w w' : Round) : Type 0 where
  pub struck : Each n (λ i. bit_of w.struck i ≡ bit_of w'.struck i)
  pub plants : Each n (λ k. Each n (λ i. planted w.plants k i ≡ planted w'.plants k i))

abbrev pub AllSame : ℕ → List Round → List Round → Type 0
AllSame n [] [] = Unit {0}
AllSame n [] (w' ∷ ws') = ⊥
AllSame n (w ∷ ws) [] = ⊥
AllSame n (w ∷ ws) (w' ∷ ws') = SameToHeads n w w' × AllSame n ws ws'

-- two rings with the same n heads
pub record SameHeads (n : ℕ) (R R' : Ring) : Type 0 where
  pub phase : R.phase ≡ R'.phase
  pub round : R.round ≡ R'.round
  pub before : Each n (λ i. bit_of R.before i ≡ bit_of R'.before i)
  pub heads : Each n (λ i. R.heads i ≡ R'.heads i)

-- what is heard is what the links carry
pub links_same : (g g' : ℕ → List ℕ) (m i : ℕ) → ((j : ℕ) → j < m + i → g j ≡ g' j) → on_links g i m ≡ on_links g' i m
links_same g g' zero i h = refl
links_same g g' (suc m) i h =
    ap₂ (λ (s : List ℕ) (D : List Delivery). record { link = i; bytes = s } ∷ D) (h i (omega arith)) (links_same g g' m (suc i) (λ j l. h j (omega arith)))

module _ (K : Family) (n f : ℕ) (R R' : Ring) (w w' : Round) (S : SameHeads n R R') (W : SameToHeads n w w') where
  opened_alone : Each n (λ i. opened_at K n f R w i ≡ opened_at K n f R' w' i)
  unfolding opened_at
  opened_alone i l = rw (W.struck i l, S.before i l, S.phase, S.round, S.heads i l)

  carried_alone : Each n (λ i. Each n (λ k. carried K n f R w i k ≡ carried K n f R' w' i k))
  unfolding carried
  carried_alone i l k t = rw (W.struck k t, W.plants k t i l, opened_alone k t)

  closed_alone : Each n (λ i. closed_at K n f R w i ≡ closed_at K n f R' w' i)
  unfolding closed_at hear_all
  closed_alone i l =
      rw (W.struck i l, opened_alone i l, links_same (carried K n f R w i) (carried K n f R' w' i) n 0 (λ k t. carried_alone i l k (omega arith)))

  next_alone : SameHeads n (after_round K n f R w) (after_round K n f R' w')
  unfolding after_round
  next_alone = record { phase = rw (S.round, S.phase); round = rw S.round; before = W.struck; heads = closed_alone }

pub heads_alone : (K : Family) (n f : ℕ) (v : ℕ → ℤ) (ws ws' : List Round) → AllSame n ws ws' → SameHeads n (ring_after K n f v ws) (ring_after K n f v ws')
unfolding ring_after
heads_alone K n f v [] [] A = record { phase = refl; round = refl; before = λ i l. refl; heads = λ i l. refl }
heads_alone K n f v [] (w' ∷ ws') A = absurd A
heads_alone K n f v (w ∷ ws) [] A = absurd A
heads_alone K n f v (w ∷ ws) (w' ∷ ws') A = next_alone K n f (ring_after K n f v ws) (ring_after K n f v ws') w w' (heads_alone K n f v ws ws' A.1) A.0
