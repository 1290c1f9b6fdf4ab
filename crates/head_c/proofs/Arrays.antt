-- What an array's `from_fn` makes, where each call answers by the index alone and leaves the closure as it was.
use mathlib.Core.Path.{◌≡◌, ◌∙◌, sym, subst}
use mathlib.Core.Logic.{by_cases}
use mathlib.Core.List.{List}
use Prim.Native.Nat.{ℕ, zero, suc, ◌+◌, ◌≤◌, ◌<◌}
use native.Mathlib.Omega.{arith}
use native.Mathlib.Decide.{ℕ_discrete}
use denote.Param.Members.{Mut, Called}
use lib.ListN.{length, get_or}
use lib.Seq.{ext_get_or}
use Rattle.std.specs.Array.{IsFromFnResultFrom, IsFromFnResult}

module _ {F A : Type 0} {g : Mut F (ℕ × Unit {0}) A} {f : F} where
  -- the elements from i on
  made_from : (h : ℕ → A) → ((i : ℕ) (y : A) (q : F) → Called g f (i, tt) y q → (y ≡ h i) × (q ≡ f))
      → (r : List A) (n i : ℕ) → IsFromFnResultFrom g f r i n → (j : ℕ) (d : A) → i ≤ j → j < i + n → get_or r j d ≡ h j
  made_from h says r zero i M j d l m = absurd (omega arith)
  made_from h says r (suc n) i (q, y, at, k, M) j d l m =
      by_cases (ℕ_discrete i j)
      (λ e. subst (λ (x : ℕ). get_or r x d ≡ h x) e (at.1 d ∙ (says i y q k).0))
      (λ e. made_from h says r n (i + 1) (subst (λ (p : F). IsFromFnResultFrom g p r (i + 1) n) (says i y q k).1 M) j d (omega arith) (omega arith))

  -- the list s has these elements
  pub made : {r : List A} {n : ℕ} → IsFromFnResult g f r n → (s : List A) (d : A) → length s ≡ n → (h : ℕ → A)
      → ((i : ℕ) → i < n → get_or s i d ≡ h i) → ((i : ℕ) (y : A) (q : F) → Called g f (i, tt) y q → (y ≡ h i) × (q ≡ f)) → r ≡ s
  made {r} {n} M s d e h same says =
      ext_get_or d r s (M.long ∙ sym e)
      (λ i l. let m : i < n = omega (arith, M.long) in made_from h says r n 0 M.each i d (omega arith) (omega arith) ∙ sym (same i m))
