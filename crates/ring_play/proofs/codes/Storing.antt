-- An array filled from its first place up: after place j is stored, each place up to it has what it should, and the later ones have what they had.
use Rattle.std.proofs.Common.{◌≡◌, ℕ, ◌+◌, ◌<◌, ◌≤◌, ◌≢◌, List, length, get_or, set, arith, get_or-set_other, get_or-set_same, below_more}
use Rattle.terms.specs.Counting.{Each}

module _ {A : Type 0} (d : A) (l : List A) (j : ℕ) (v : A) where
  pub each_set : (P : ℕ → A → Type 0) → j < length l → Each j (λ i. P i (get_or l i d)) → P j v → Each (j + 1) (λ i. P i (get_or (set l j v) i d))
  each_set P below h p = below_more (λ i. P i (get_or (set l j v) i d)) j kept last
    where
      kept : Each j (λ i. P i (get_or (set l j v) i d))
      kept i q = let e : i ≢ j = omega arith in rw (get_or-set_other l j i v d e) (h i q)

      last : P j (get_or (set l j v) j d)
      last = rw (get_or-set_same l j v d below) p

  pub later_set : (i : ℕ) → j + 1 ≤ i → get_or (set l j v) i d ≡ get_or l i d
  later_set i h = let e : i ≢ j = omega arith in get_or-set_other l j i v d e

-- two arrays side by side
pub each_set_both : {A B : Type 0} (d : A) (e : B) (l : List A) (k : List B) (j : ℕ) (v : A) (w : B) (P : ℕ → A → B → Type 0) → j < length l → j < length k
    → Each j (λ i. P i (get_or l i d) (get_or k i e)) → P j v w → Each (j + 1) (λ i. P i (get_or (set l j v) i d) (get_or (set k j w) i e))
each_set_both d e l k j v w P a b h p = below_more (λ i. P i (get_or (set l j v) i d) (get_or (set k j w) i e)) j kept last
  where
    kept : Each j (λ i. P i (get_or (set l j v) i d) (get_or (set k j w) i e))
    kept i q = let r : i ≢ j = omega arith in rw (get_or-set_other l j i v d r, get_or-set_other k j i w e r) (h i q)

    last : P j (get_or (set l j v) j d) (get_or (set k j w) j e)
    last = rw (get_or-set_same l j v d a, get_or-set_same k j w e b) p
