-- What is settled depends on the entries 0 .. n - 1 only, and a trusted entry on what links 0 .. n - 1 gave, and of their lists on the one entry. Demand 3
-- depends on who is struck and on what the others hold. The definitions look at nothing else.
use Rattle.std.specs.Prelude.{None}
use mathlib.Core.Path.{◌≡◌, refl, ap, ap₂, sym, ◌∙◌, fun_ext}
use mathlib.Core.Bool.{Bool, true, false, cond}
use Prim.Native.Nat.{ℕ, zero, suc, ◌-◌, ◌<◌}
use lib.Dec.{leb}
use lib.IntN.{ℤ}
use Rattle.terms.specs.Entry.{Entry}
use Rattle.terms.specs.Counting.{Each, bit}
use Rattle.convergence.specs.Settling.{is_null, nulls, ordered, Rule, midpoint, enough, settled}
use Rattle.convergence.specs.Trust.{Given, nothing, confessed, gave, is, supports, support, has_confessed, confessions, says_of, seen, trusted}
use Rattle.convergence.specs.Phases.{End, lesser, greater, join, sound_at, lowest, highest, spread}
use Rattle.convergence.specs.Demand3.{Demand3}
use Rattle.terms.proofs.Sums.{each_last, each_less, sum_same}

-- ---- entries

pub nulls_same : (n : ℕ) (E E' : ℕ → Entry) → Each n (λ j. E j ≡ E' j) → nulls n E ≡ nulls n E'
unfolding nulls
nulls_same n E E' h = sum_same n (λ j. is_null (E j)) (λ j. is_null (E' j)) (λ j l. rw (h j l))

pub ordered_same : (n : ℕ) (E E' : ℕ → Entry) → Each n (λ j. E j ≡ E' j) → ordered n E ≡ ordered n E'
unfolding ordered
ordered_same zero E E' h = refl
ordered_same (suc n) E E' h = cc (each_last h, ordered_same n E E' (each_less h))

pub midpoint_same : (r n : ℕ) (R : Rule) (E E' : ℕ → Entry) → Each n (λ j. E j ≡ E' j) → midpoint r n R E ≡ midpoint r n R E'
unfolding midpoint
midpoint_same r n R E E' h = cc (ordered_same n E E' h, nulls_same n E E' h)

pub settled_same : (r n : ℕ) (R : Rule) (E E' : ℕ → Entry) → Each n (λ j. E j ≡ E' j) → settled r n R E ≡ settled r n R E'
unfolding settled enough
settled_same r n R E E' h = cc (nulls_same n E E' h, midpoint_same r n R E E' h)

-- ---- links

-- two links say the same of head j
pub record SameOf (j : ℕ) (g g' : Given) : Type 0 where
  pub confesses : has_confessed g ≡ has_confessed g'
  pub says : says_of j g ≡ says_of j g'

supports_is : (j : ℕ) (u : ℤ) (g : Given) → supports j u g ≡ cond (has_confessed g) 1 (is u (says_of j g))
supports_is j u nothing = refl
supports_is j u confessed = refl
supports_is j u (gave l) = refl

supports_same : (j : ℕ) (u : ℤ) (g g' : Given) → SameOf j g g' → supports j u g ≡ supports j u g'
supports_same j u g g' s = rw (supports_is j u g, supports_is j u g', s.confesses, s.says)

seen_same : (ok ok' : ℤ → Bool) (n : ℕ) (E E' : ℕ → Entry) → ok ≡ ok' → Each n (λ k. E k ≡ E' k) → seen ok n E ≡ seen ok' n E'
unfolding seen
seen_same ok ok' zero E E' q h = refl
seen_same ok ok' (suc n) E E' q h = cc (each_last h, seen_same ok ok' n E E' q (each_less h))

module _ (n f : ℕ) (G G' : ℕ → Given) (j : ℕ) (same : Each n (λ k. SameOf j (G k) (G' k))) where
  confessions_same : confessions n G ≡ confessions n G'
  unfolding confessions
  confessions_same = sum_same n (λ k. bit (has_confessed (G k))) (λ k. bit (has_confessed (G' k))) (λ k m. rw (same k m).confesses)

  support_same : (u : ℤ) → support n G j u ≡ support n G' j u
  unfolding support
  support_same u = sum_same n (λ k. supports j u (G k)) (λ k. supports j u (G' k)) (λ k m. supports_same j u (G k) (G' k) (same k m))

  pub trusted_same_of : j < n → trusted n f G j ≡ trusted n f G' j
  unfolding trusted
  trusted_same_of l =
      rw ((same j l).confesses, confessions_same, seen_same _ _ n _ _ (fun_ext (λ u. ap (leb (n - f)) (support_same u))) (λ k m. (same k m).says))

pub trusted_same : (n f : ℕ) (G G' : ℕ → Given) (j : ℕ) → j < n → Each n (λ k. G k ≡ G' k) → trusted n f G j ≡ trusted n f G' j
trusted_same n f G G' j l same = trusted_same_of n f G G' j (λ k m. record { confesses = ap has_confessed (same k m); says = ap (says_of j) (same k m) }) l

-- ---- phase ends

-- two ends agree on receivers 0 .. N - 1: the same are struck, and the others hold the same
pub record SameEnd (N : ℕ) (e e' : End) : Type 0 where
  pub struck : Each N (λ i. e.struck i ≡ e'.struck i)
  pub at : Each N (λ i. e.struck i ≡ false → e.at i ≡ e'.at i)

sound_same : {N : ℕ} {e e' : End} → SameEnd N e e' → Each N (λ i. sound_at e i ≡ sound_at e' i)
sound_same {e} {e'} s i l = rw (← s.struck i l) (go (e.struck i) (s.at i l))
  where
    go : (b : Bool) → (b ≡ false → e.at i ≡ e'.at i) → cond b None (e.at i) ≡ cond b None (e'.at i)
    go true h = refl
    go false h = h refl

bounds_same : (N : ℕ) (e e' : End) → Each N (λ i. sound_at e i ≡ sound_at e' i) → (lowest N e ≡ lowest N e') × (highest N e ≡ highest N e')
unfolding lowest highest
bounds_same zero e e' h = (refl, refl)
bounds_same (suc N) e e' h =
    let (a, b) = bounds_same N e e' (each_less h) in
    (ap₂ (join lesser) (each_last h) a, ap₂ (join greater) (each_last h) b)

pub same_bounds : {N : ℕ} {e e' : End} → SameEnd N e e' → (lowest N e ≡ lowest N e') × (highest N e ≡ highest N e')
same_bounds {N} {e} {e'} s = bounds_same N e e' (sound_same s)

pub demand3_same : {N k : ℕ} {halves : Type 0} {e e' d d' : End} → SameEnd N e d → SameEnd N e' d' → Demand3 N halves k d d' → Demand3 N halves k e e'
unfolding spread
demand3_same s s' D =
    let (a, b) = same_bounds s in
    let (a', b') = same_bounds s' in
    record {
      range = λ i l q. rw (a, b, s'.at i l q) (D.range i l (sym (s'.struck i l) ∙ q));
      halving = λ q. rw (a, b, a', b') (D.halving q);
    }
