-- A chain that asks the same of each index 0 .. n - 1 answers what a definition says that goes from n to n + 1.
use mathlib.Core.Path.{◌≡◌, refl, ap, sym, ◌∙◌}
use mathlib.Core.Bool.{Bool, true, false, ◌&&◌}
use mathlib.Core.List.{map, [], ◌∷◌}
use Prim.Native.Nat.{ℕ, zero, suc, ◌+◌}
use native.Mathlib.Omega.{arith}
use native.Mathlib.Numerals.{add-one}
use Rattle.std.specs.List.{list_all, range_with_len}
use Rattle.std.proofs.lemmas.List.Folds.{list_all-append, list_all-map}
use Rattle.std.proofs.lemmas.List.FromFn.{map-range_with_len_more}

and_only : (a b : Bool) → (a && (b && true)) ≡ (a && b)
and_only a true = refl
and_only a false = refl

module _ (test : ℕ → Bool) where
  all_next : (n : ℕ) → list_all test (range_with_len 0 (n + 1)) ≡ (list_all test (range_with_len 0 n) && test n)
  all_next n =
      sym (list_all-map (λ b. b) test (range_with_len 0 (n + 1)))
      ∙ ap (list_all (λ b. b)) (map-range_with_len_more test 0 n n (omega arith))
      ∙ list_all-append (λ b. b) (map test (range_with_len 0 n)) (test n ∷ [])
      ∙ and_only _ (test n)
      ∙ ap (λ (b : Bool). b && test n) (list_all-map (λ b. b) test (range_with_len 0 n))

  pub all_below : (says : ℕ → Bool) → says 0 ≡ true → ((n : ℕ) → says (suc n) ≡ (says n && test n)) → (n : ℕ) → list_all test (range_with_len 0 n) ≡ says n
  all_below says none more zero = sym none
  all_below says none more (suc n) =
      ap (λ (k : ℕ). list_all test (range_with_len 0 k)) (sym (add-one n))
      ∙ all_next n
      ∙ ap (λ (b : Bool). b && test n) (all_below says none more n)
      ∙ sym (more n)
