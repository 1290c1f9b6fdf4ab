-- The trusted entry is what document 01 says it is: u, if exactly one position has support n - f or more and link j has not confessed. `trusted`
-- looks only at the positions that stand in a list. That is enough: any other has the support of the confessions alone, and if these are n - f,
-- every position has the support.
use Rattle.std.specs.Prelude.{None, Some}
use mathlib.Core.Path.{◌≡◌, refl, ap, sym, ◌∙◌}
use mathlib.Core.List.{[], ◌∷◌}
use mathlib.Core.Logic.{◌≢◌, ◌↔◌}
use mathlib.Core.Bool.{Bool, true, false, not, true≢false}
use Prim.Native.Nat.{ℕ, zero, suc, ◌-◌, ◌≤◌, ◌<◌}
use native.Mathlib.Omega.{arith}
use native.Mathlib.Decide.{dec_le}
use lib.Dec.{T, leb→le, le→leb, nleb→lt}
use lib.IntN.{ℤ, pos, ◌+ℤ◌, ℤ_discrete}
use Rattle.terms.specs.Positions.{is_position, eq_z}
use Rattle.terms.specs.Entry.{Entry}
use Rattle.terms.proofs.Whole.{eqZ→eq, eq_z_refl, other}
use Rattle.terms.specs.Counting.{Each, bit}
use Rattle.convergence.specs.Trust.{Given, nothing, confessed, gave, is, supports, support, has_confessed, Only, confessions, says_of, Seen, none, one, many, pick, see, see_entry, seen, choose, trusted}
use Rattle.terms.proofs.Sums.{each_more, sums_le, bit_yes, bit_no}

-- an entry is one thing
pub same_position : {x : Entry} {u w : ℤ} → x ≡ Some u → x ≡ Some w → w ≡ u
same_position p q = cc

pub not_null : {x : Entry} {u : ℤ} → x ≡ None → x ≡ Some u → ⊥
not_null p q = let z : ◌≡◌ {A = ℕ} 0 1 = cc in omega arith

-- ---- what was seen in a column

abbrev pub Says : (ℤ → Bool) → ℕ → (ℕ → Entry) → Seen → Type 0
Says ok n E none = Each n (λ k. (u : ℤ) → E k ≡ Some u → T (ok u) → ⊥)
Says ok n E (one u) = T (ok u) × Each n (λ k. (w : ℤ) → E k ≡ Some w → T (ok w) → w ≡ u)
Says ok n E many = (u : ℤ) × (w : ℤ) × T (ok u) × T (ok w) × (u ≢ w)

module _ (ok : ℤ → Bool) (n : ℕ) (E : ℕ → Entry) where
  says_skip : (s : Seen) → ((w : ℤ) → E n ≡ Some w → T (ok w) → ⊥) → Says ok n E s → Says ok (suc n) E s
  says_skip none z h = each_more h z
  says_skip (one u) z h = (h.0, each_more h.1 (λ w q t. absurd (z w q t)))
  says_skip many z h = h

  says_see : (u : ℤ) (s : Seen) → E n ≡ Some u → T (ok u) → Says ok n E s → Says ok (suc n) E (see u s)
  says_see u none e t h = (t, each_more (λ k l w q r. absurd (h k l w q r)) (λ w q r. same_position e q))
  says_see u (one w) e t h = go (eq_z w u) (eqZ→eq w u) (λ (q : w ≡ u). rw q (eq_z_refl u))
    where
      go : (b : Bool) → (T b → w ≡ u) → (w ≡ u → T b) → Says ok (suc n) E (pick b (one w) many)
      go true a b = (h.0, each_more h.1 (λ x q r. same_position e q ∙ sym (a tt)))
      go false a b = (w, u, h.0, t, b)
  says_see u many e t h = h

  says_entry : (x : Entry) (s : Seen) → E n ≡ x → Says ok n E s → Says ok (suc n) E (see_entry ok x s)
  says_entry None s q h = says_skip s (λ w r t. not_null q r) h
  says_entry (Some u) s q h = go (ok u) refl
    where
      go : (b : Bool) → ok u ≡ b → Says ok (suc n) E (pick b (see u s) s)
      go true r = says_see u s q (rw r tt) h
      go false r = says_skip s (λ w k t. rw (same_position q k, r) at t) h

pub says : (ok : ℤ → Bool) (n : ℕ) (E : ℕ → Entry) → Says ok n E (seen ok n E)
unfolding seen
says ok zero E = λ k l. absurd (omega arith)
says ok (suc n) E = says_entry ok n E (E n) (seen ok n E) refl (says ok n E)

-- ---- support

pub is_same : (u : ℤ) → is u (Some u) ≡ 1
is_same u = bit_yes (eq_z u u) (eq_z_refl u)

pub is_other : (u : ℤ) (x : Entry) → (x ≡ Some u → ⊥) → is u x ≡ 0
is_other u None h = refl
is_other u (Some w) h = bit_no (eq_z u w) (λ t. h (ap Some (sym (eqZ→eq u w t))))

pub is_yes : (u : ℤ) (x : Entry) → 1 ≤ is u x → x ≡ Some u
is_yes u None h = absurd (omega arith)
is_yes u (Some w) h = go (eq_z u w) (eqZ→eq u w) h
  where
    go : (b : Bool) → (T b → u ≡ w) → 1 ≤ bit b → Some w ≡ Some u
    go true p l = ap Some (sym (p tt))
    go false p l = absurd (omega arith)

not_said : (j : ℕ) (u : ℤ) (g : Given) → (says_of j g ≡ Some u → ⊥) → supports j u g ≤ bit (has_confessed g)
not_said j u nothing h = omega arith
not_said j u confessed h = omega arith
not_said j u (gave l) h = omega (arith, is_other u (l j) h)

confession_supports : (j : ℕ) (u : ℤ) (g : Given) → bit (has_confessed g) ≤ supports j u g
confession_supports j u nothing = omega arith
confession_supports j u confessed = omega arith
confession_supports j u (gave l) = omega arith

module _ (n : ℕ) (G : ℕ → Given) (j : ℕ) where
  -- a position that stands in no list has the support of the confessions only
  unsaid : (u : ℤ) → Each n (λ k. says_of j (G k) ≡ Some u → ⊥) → support n G j u ≤ confessions n G
  unfolding support confessions
  unsaid u h =
      omega (arith, sums_le n ((λ k. supports j u (G k)) ∷ []) ((λ k. bit (has_confessed (G k))) ∷ []) (λ k l. omega (arith, not_said j u (G k) (h k l))))

  by_confession : (u : ℤ) → confessions n G ≤ support n G j u
  unfolding support confessions
  by_confession u =
      omega (arith, sums_le n ((λ k. bit (has_confessed (G k))) ∷ []) ((λ k. supports j u (G k)) ∷ []) (λ k l. omega (arith, confession_supports j u (G k))))

-- ---- the one position with the support

module _ (n f : ℕ) (G : ℕ → Given) (j : ℕ) where
  -- a test that the positions with the support pass, and no others
  module _ (ok : ℤ → Bool) (to : (u : ℤ) → T (ok u) → n - f ≤ support n G j u) (back : (u : ℤ) → n - f ≤ support n G j u → T (ok u)) where
    abbrev Found : Seen → Type 0
    Found s = Says ok n (λ k. says_of j (G k)) s

    is_chosen : (u : ℤ) (a b : Bool) (s : Seen) → Only n f G j u → a ≡ false → (T b → n - f ≤ confessions n G) → (T (not b) → confessions n G < n - f)
        → Found s → choose a b s ≡ Some u
    is_chosen u true b s o q x y h = absurd (true≢false q)
    is_chosen u false true s o q x y h =
        absurd (other u (o.alone (u +ℤ pos 1) (omega (arith, x tt, by_confession n G j (u +ℤ pos 1)))))
    is_chosen u false false none o q x y h =
        absurd (omega (arith, y tt, o.reaches, unsaid n G j u (λ k l e. h k l u e (back u o.reaches))))
    is_chosen u false false (one w) o q x y h = ap Some (o.alone w (to w h.0))
    is_chosen u false false many o q x y h = absurd (h.4 (o.alone h.0 (to h.0 h.2) ∙ sym (o.alone h.1 (to h.1 h.3))))

    was_chosen : (u : ℤ) (a b : Bool) (s : Seen) → (T (not b) → confessions n G < n - f) → Found s → choose a b s ≡ Some u
        → Only n f G j u × (a ≡ false)
    was_chosen u true b s y h q = absurd (not_null refl q)
    was_chosen u false true s y h q = absurd (not_null refl q)
    was_chosen u false false none y h q = absurd (not_null refl q)
    was_chosen u false false many y h q = absurd (not_null refl q)
    was_chosen u false false (one w) y h q = (record { reaches = rw e at (to w h.0); alone = λ x r. go x r (ℤ_discrete x u) }, refl)
      where
        e : w ≡ u
        e = cc

        go : (x : ℤ) → n - f ≤ support n G j x → Dec (x ≡ u) → x ≡ u
        go x r (yes z) = z
        go x r (no z) = absurd (omega (arith, y tt, unsaid n G j x (λ k l c. z (h.1 k l x c (back x r) ∙ e))))

  pub trusted_is : (u : ℤ) → Only n f G j u → has_confessed (G j) ≡ false → trusted n f G j ≡ Some u
  unfolding trusted
  trusted_is u o e =
      is_chosen _ (λ w t. omega (arith, leb→le)) (λ w h. omega (arith, le→leb)) u (has_confessed (G j)) _ _ o e
      (λ t. omega (arith, leb→le)) (λ t. omega (arith, nleb→lt)) (says _ n (λ k. says_of j (G k)))

  pub trusted_only : (u : ℤ) → trusted n f G j ≡ Some u → Only n f G j u × (has_confessed (G j) ≡ false)
  unfolding trusted
  trusted_only u e =
      was_chosen _ (λ w t. omega (arith, leb→le)) (λ w h. omega (arith, le→leb)) u (has_confessed (G j)) _ _
      (λ t. omega (arith, nleb→lt)) (says _ n (λ k. says_of j (G k))) e

  pub trusted_iff : (u : ℤ) → (trusted n f G j ≡ Some u) ↔ (Only n f G j u × (has_confessed (G j) ≡ false))
  trusted_iff u = (trusted_only u, λ h. trusted_is u h.0 h.1)

-- ---- positions are whole numbers in a range: if all lists hold such only, "exactly one" is the same of these as of all whole numbers

pub record OnlyPosition (n f : ℕ) (G : ℕ → Given) (j : ℕ) (u : ℤ) : Type 0 where
  pub within : is_position u ≡ true
  pub reaches : n - f ≤ support n G j u
  pub alone : (w : ℤ) → is_position w ≡ true → n - f ≤ support n G j w → w ≡ u

module _ (n f : ℕ) (G : ℕ → Given) (j : ℕ) (L : Each n (λ k. (u : ℤ) → says_of j (G k) ≡ Some u → is_position u ≡ true)) where
  few_confessions : {u : ℤ} → OnlyPosition n f G j u → confessions n G < n - f
  unfolding is_position
  few_confessions {u} o = go (dec_le (n - f) (confessions n G))
    where
      go : Dec (n - f ≤ confessions n G) → confessions n G < n - f
      go (yes q) =
          let a = o.alone (pos 0) refl (omega (arith, by_confession n G j (pos 0))) in
          let b = o.alone (pos 1) refl (omega (arith, by_confession n G j (pos 1))) in
          let z : ◌≡◌ {A = ℕ} 0 1 = cc in
          absurd (omega arith)
      go (no q) = omega arith

  out_of_range : (w : ℤ) → is_position w ≡ false → support n G j w ≤ confessions n G
  out_of_range w h = unsaid n G j w (λ k l e. true≢false (sym (L k l w e) ∙ h))

  widen : {u : ℤ} → OnlyPosition n f G j u → Only n f G j u
  widen {u} o = record { reaches = o.reaches; alone = λ w h. go w h (is_position w) refl }
    where
      go : (w : ℤ) → n - f ≤ support n G j w → (b : Bool) → is_position w ≡ b → w ≡ u
      go w h true r = o.alone w r h
      go w h false r = absurd (omega (arith, few_confessions o, out_of_range w r))

  narrow : {u : ℤ} → Only n f G j u → OnlyPosition n f G j u
  narrow {u} o = record { within = go (is_position u) refl; reaches = o.reaches; alone = λ w r h. o.alone w h }
    where
      go : (b : Bool) → is_position u ≡ b → is_position u ≡ true
      go true r = r
      go false r = absurd (other u (o.alone (u +ℤ pos 1) (omega (arith, o.reaches, out_of_range u r, by_confession n G j (u +ℤ pos 1)))))

  pub trusted_in_range : (u : ℤ) → (trusted n f G j ≡ Some u) ↔ (OnlyPosition n f G j u × (has_confessed (G j) ≡ false))
  trusted_in_range u =
      (λ e. let o = trusted_only n f G j u e in (narrow o.0, o.1), λ o. trusted_is n f G j u (widen o.0) o.1)
