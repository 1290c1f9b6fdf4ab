-- What the code counts is the support and the trusted entry. A link supports a position by a confession or by its list, so the lists have to make up
-- what n - f exceeds the confessions by. Links from 32 on gave nothing, so the first 32 are enough.
use Rattle.std.specs.Prelude.{None}
use mathlib.Core.Path.{◌≡◌, refl, ap, sym, ◌∙◌, fun_ext}
use mathlib.Core.Bool.{Bool, true, false}
use mathlib.Core.List.{List, [], ◌∷◌}
use Prim.Native.Nat.{ℕ, zero, suc, ◌+◌, ◌-◌, ◌≤◌, min}
use native.Mathlib.Omega.{arith}
use lib.Dec.{eqb, leb}
use lib.IntN.{ℤ}
use borrow.Author.Tests.{ne_eqb}
use Rattle.terms.specs.Entry.{Entry}
use Rattle.marks.specs.Marks.{bit_of, count_below}
use Rattle.terms.specs.Counting.{Each, sum, bit}
use Rattle.convergence.specs.Trust.{Given, nothing, confessed, gave, is, supports, support, has_confessed, confessions, says_of, none, seen, choose, trusted}
use Rattle.marks.proofs.Marks.{bit_above}
use Rattle.terms.proofs.Sums.{each_last, each_less, sums_le, sum_same}
use Rattle.settle_trust.specs.declared.Links.{Links}
use Rattle.settle_trust.specs.Received.{given_by}
use Rattle.settle_trust.specs.Cells.{marks_to, column_of, stands_in, agreed, decided}
use Rattle.marks.proofs.Counts.{first_32}
use Rattle.settle_trust.proofs.Tests.{leb_rest, none_left}
use Rattle.settle_trust.proofs.Received.{confessed_given, column_given, Words, given_past, says_past}

-- ---- confessions and lists

supports_parts : (j : ℕ) (u : ℤ) (g : Given) → supports j u g ≡ bit (has_confessed g) + is u (says_of j g)
supports_parts j u nothing = refl
supports_parts j u confessed = refl
supports_parts j u (gave l) = omega arith

pub support_parts : (n : ℕ) (G : ℕ → Given) (j : ℕ) (u : ℤ) → support n G j u ≡ confessions n G + sum n (λ k. is u (says_of j (G k)))
unfolding support confessions
support_parts n G j u =
    let s : ℕ → ℕ = λ k. supports j u (G k) in
    let c : ℕ → ℕ = λ k. bit (has_confessed (G k)) in
    let i : ℕ → ℕ = λ k. is u (says_of j (G k)) in
    omega (
      arith,
      sums_le n (s ∷ []) (c ∷ i ∷ []) (λ k l. omega (arith, supports_parts j u (G k))),
      sums_le n (c ∷ i ∷ []) (s ∷ []) (λ k l. omega (arith, supports_parts j u (G k))),
    )

decided_trusted : (n f : ℕ) (G : ℕ → Given) (j : ℕ) → decided (has_confessed (G j)) n (n - f - confessions n G) (λ k. says_of j (G k)) ≡ trusted n f G j
unfolding trusted
decided_trusted n f G j =
    let ok : stands_in n (n - f - confessions n G) (λ k. says_of j (G k)) ≡ (λ u. leb (n - f) (support n G j u)) =
    fun_ext (λ u. leb_rest (n - f) (confessions n G) (sum n (λ k. is u (says_of j (G k)))) ∙ ap (leb (n - f)) (sym (support_parts n G j u))) in
    rw (none_left (n - f) (confessions n G), ok)

-- ---- the cases of a decision

module _ {confesses : Bool} (n need : ℕ) (E : ℕ → Entry) where
  pub decided_confessed : confesses ≡ true → decided confesses n need E ≡ None
  decided_confessed e = rw e

  pub decided_by_lists : confesses ≡ false → (need ≡ 0 → ⊥) → decided confesses n need E ≡ choose false false (agreed n need E)
  decided_by_lists e q = rw (e, ne_eqb need 0 q)

-- ---- the first n entries decide

seen_same : (ok : ℤ → Bool) (n : ℕ) (E E' : ℕ → Entry) → Each n (λ k. E k ≡ E' k) → seen ok n E ≡ seen ok n E'
unfolding seen
seen_same ok zero E E' h = refl
seen_same ok (suc n) E E' h = cc (each_last h, seen_same ok n E E' (each_less h))

decided_same : (confesses : Bool) (n need : ℕ) (E E' : ℕ → Entry) → Each n (λ k. E k ≡ E' k) → decided confesses n need E ≡ decided confesses n need E'
decided_same confesses n need E E' h =
    let ok : stands_in n need E ≡ stands_in n need E' = fun_ext (λ u. ap (leb need) (sum_same n _ _ (λ k l. ap (is u) (h k l)))) in
    ap (choose confesses (eqb need 0)) (ap (λ (t : ℤ → Bool). seen t n E) ok ∙ seen_same (stands_in n need E') n E E' h)

-- ---- the first 32 links

sum_first_32 : (g : ℕ → ℕ) → ((k : ℕ) → 32 ≤ k → g k ≡ 0) → (n : ℕ) → sum (min n 32) g ≡ sum n g
unfolding sum
sum_first_32 g h n = first_32 (λ k. sum k g) (λ k l. omega (arith, h k l)) n

seen_first_32 : (ok : ℤ → Bool) (E : ℕ → Entry) → ((k : ℕ) → 32 ≤ k → E k ≡ None) → (n : ℕ) → seen ok (min n 32) E ≡ seen ok n E
unfolding seen
seen_first_32 ok E h n = first_32 (λ k. seen ok k E) (λ k l. rw (h k l)) n

seen_none : (ok : ℤ → Bool) (E : ℕ → Entry) → ((k : ℕ) → E k ≡ None) → (n : ℕ) → seen ok n E ≡ none
unfolding seen
seen_none ok E h zero = refl
seen_none ok E h (suc n) = rw (h n) (seen_none ok E h n)

none_chosen : (b : Bool) → choose false b none ≡ None
none_chosen true = refl
none_chosen false = refl

agreed_first_32 : (need : ℕ) (E : ℕ → Entry) → ((k : ℕ) → 32 ≤ k → E k ≡ None) → (n : ℕ) → agreed (min n 32) need E ≡ agreed n need E
agreed_first_32 need E h n =
    let ok : stands_in (min n 32) need E ≡ stands_in n need E =
    fun_ext (λ u. ap (leb need) (sum_first_32 (λ k. is u (E k)) (λ k l. ap (is u) (h k l)) n)) in
    ap (λ (t : ℤ → Bool). seen t (min n 32) E) ok ∙ seen_first_32 (stands_in n need E) E h n

-- ---- from the marks

module _ (g : Links) (lists : List (List ℤ)) (w : Words g) where
  abbrev G : ℕ → Given
  G = given_by g lists

  confessions_marked : (n : ℕ) → count_below g.confessed (min n 32) ≡ confessions n G
  unfolding confessions
  confessions_marked n =
      sum_first_32 (λ k. bit (bit_of g.confessed k)) (λ k l. ap bit (bit_above g.confessed 32 k w.confessed l)) n
      ∙ sum_same n (λ k. bit (bit_of g.confessed k)) (λ k. bit (has_confessed (G k))) (λ k l. ap bit (sym (confessed_given g lists k)))

  says_nothing : (j k : ℕ) → 32 ≤ k → says_of j (G k) ≡ None
  says_nothing j k l = ap (says_of j) (given_past g lists w k l)

  pub support_counted : {m : ℕ} (n j : ℕ) (u : ℤ) → m ≡ min n 32 → count_below g.confessed m + sum m (λ k. is u (says_of j (G k))) ≡ support n G j u
  support_counted n j u e =
      rw (e, confessions_marked n, sum_first_32 (λ k. is u (says_of j (G k))) (λ k l. ap (is u) (says_nothing j k l)) n) (sym (support_parts n G j u))

  trusted_decided : {m need : ℕ} (n f j : ℕ) → m ≡ min n 32 → need ≡ n - f - count_below g.confessed (min n 32)
      → decided (bit_of g.confessed j) m need (λ k. says_of j (G k)) ≡ trusted n f G j
  trusted_decided {need} n f j e q =
      rw (← confessed_given g lists j, e, agreed_first_32 need (λ k. says_of j (G k)) (says_nothing j) n, q, confessions_marked n) (decided_trusted n f G j)

  -- what the lists and their marks decide is the trusted entry
  pub decided_marked : {m need : ℕ} {marks : List ℕ} (n f j : ℕ) → m ≡ min n 32 → need ≡ n - f - count_below g.confessed (min n 32) → marks ≡ marks_to g (min n 32)
      → decided (bit_of g.confessed j) m need (column_of marks lists j) ≡ trusted n f G j
  decided_marked {m} {need} n f j e q h =
      decided_same (bit_of g.confessed j) m need _ _ (column_given g lists m j (omega arith) (h ∙ ap (marks_to g) (sym e))) ∙ trusted_decided n f j e q

  -- no entry of a head from 32 on is trusted
  pub trusted_past : (n f j : ℕ) → 32 ≤ j → trusted n f G j ≡ None
  unfolding trusted
  trusted_past n f j h =
      rw (given_past g lists w j h, seen_none (λ u. leb (n - f) (support n G j u)) (λ k. says_of j (G k)) (λ k. says_past g lists w j k h) n) (none_chosen (leb (n - f) (confessions n G)))
