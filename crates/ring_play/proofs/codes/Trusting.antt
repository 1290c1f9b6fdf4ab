-- The trusted entries of a receiver, from what all receivers share. No position but the shared one can reach the support; so the entry is that one if it does,
-- and else null.
use Rattle.std.specs.Prelude.{None, Some}
use Rattle.std.proofs.Common.{◌≡◌, ℕ, ◌+◌, ◌-◌, ◌<◌, ◌≤◌, Bool, true, false, cond, ◌&&◌, leb, ◌≢◌, List, [], ◌∷◌, get_or, ℤ, pos, ◌+ℤ◌, sym, refl, ap, ◌∙◌, true≢false, arith, le-leb}
use native.Mathlib.Decide.{dec_le}
use lib.IntN.{ℤ_discrete}
use borrow.Author.Tests.{lt-leb}
use Rattle.terms.specs.Entry.{Entry}
use Rattle.terms.proofs.Whole.{other}
use Rattle.terms.specs.Counting.{Each, sum, bit}
use Rattle.convergence.specs.Trust.{Given, nothing, is, supports, support, has_confessed, confessions, says_of, trusted}
use Rattle.terms.proofs.Sums.{sums_le, sum_same, sum_none}
use Rattle.convergence.proofs.Support.{trusted_is, trusted_only, is_other}
use Rattle.convergence.proofs.Links.{supports_le}
use Rattle.settle_trust.proofs.Trusted.{support_parts}
use Rattle.ring_play.specs.Inner.Codes.{no_code, entry_of, holds}
use Rattle.ring_play.specs.Inner.Shares.{Shares}
use Rattle.ring_play.proofs.codes.Codes.{entry_null, entry_position, is_holds}

-- ---- a trusted entry, if one position alone can have the support

module _ (n f : ℕ) (G : ℕ → Given) (j : ℕ) where
  -- no position has it
  trusted_none : ((u : ℤ) → support n G j u < n - f) → trusted n f G j ≡ None
  trusted_none h = go (trusted n f G j) refl
    where
      go : (e : Entry) → trusted n f G j ≡ e → trusted n f G j ≡ None
      go None q = q
      go (Some u) q = absurd (omega (arith, h u, (trusted_only n f G j u q).0.reaches))

  trusted_healed : has_confessed (G j) ≡ true → trusted n f G j ≡ None
  trusted_healed c = go (trusted n f G j) refl
    where
      go : (e : Entry) → trusted n f G j ≡ e → trusted n f G j ≡ None
      go None q = q
      go (Some u) q = absurd (true≢false (sym c ∙ (trusted_only n f G j u q).1))

  -- c alone can have it
  module _ (c : ℤ) (few : (w : ℤ) → w ≢ c → support n G j w < n - f) where
    trusted_reached : has_confessed (G j) ≡ false → n - f ≤ support n G j c → trusted n f G j ≡ Some c
    trusted_reached unhealed r = trusted_is n f G j c (record { reaches = r; alone = λ w h. go w h (ℤ_discrete w c) }) unhealed
      where
        go : (w : ℤ) → n - f ≤ support n G j w → Dec (w ≡ c) → w ≡ c
        go w h (yes e) = e
        go w h (no d) = absurd (omega (arith, few w d))

    trusted_missed : support n G j c < n - f → trusted n f G j ≡ None
    trusted_missed m = trusted_none (λ w. go w (ℤ_discrete w c))
      where
        go : (w : ℤ) → Dec (w ≡ c) → support n G j w < n - f
        go w (yes e) = rw e m
        go w (no d) = few w d

    few_confessions : confessions n G < n - f
    few_confessions = let w = c +ℤ pos 1 in omega (arith, few w (other c), support_parts n G j w)

-- ---- a receiver: G is what all links give alike, G' what they give it, other than G on the struck links alone

module _ (n f p : ℕ) (G G' : ℕ → Given) (struck : ℕ → Bool) (codes : List ℤ) (same : List ℕ) (S : Shares n f p G codes same)
    (counted : sum n (λ k. bit (struck k)) ≡ p) (untold : Each n (λ k. struck k ≡ true → G k ≡ nothing)) (kept : Each n (λ k. struck k ≡ false → G' k ≡ G k))
    (tidy : Each n (λ k. Each n (λ j. says_of j (G' k) ≡ Some no_code → ⊥))) where
  support_le : (j : ℕ) (w : ℤ) → support n G' j w ≤ support n G j w + p
  unfolding support
  support_le j w =
      omega (
        arith,
        counted,
        sums_le n ((λ k. supports j w (G' k)) ∷ []) ((λ k. supports j w (G k)) ∷ (λ k. bit (struck k)) ∷ []) (λ k l. go k l (struck k) refl),
      )
    where
      go : (k : ℕ) → k < n → (b : Bool) → struck k ≡ b → supports j w (G' k) + 0 ≤ supports j w (G k) + (bit (struck k) + 0)
      go k l true e = rw e (omega (arith, supports_le j w (G' k)))
      go k l false e = rw (e, kept k l e) (omega arith)

  module _ (j : ℕ) (l : j < n) where
    abbrev c : ℤ
    c = get_or codes j (pos 0)

    -- what the struck links add
    abbrev added : ℕ → ℕ
    added k = cond (struck k) (holds j c (G' k)) 0

    unhealed_too : has_confessed (G' j) ≡ false → has_confessed (G j) ≡ false
    unhealed_too e = go (struck j) refl
      where
        go : (b : Bool) → struck j ≡ b → has_confessed (G j) ≡ false
        go true q = ap has_confessed (untold j l q)
        go false q = ap has_confessed (sym (kept j l q)) ∙ e

    module _ (unhealed : has_confessed (G' j) ≡ false) where
      few : (w : ℤ) → w ≢ c → support n G' j w < n - f
      few w d = omega (arith, support_le j w, S.alone j l (unhealed_too unhealed) w d)

      total : get_or same j 0 + sum n added ≡ sum n (λ k. holds j c (G' k))
      total =
          let a : ℕ → ℕ = λ k. holds j c (G k) in
          let b : ℕ → ℕ = λ k. holds j c (G' k) in
          omega (
            arith,
            S.counts j l (unhealed_too unhealed),
            sums_le n (a ∷ added ∷ []) (b ∷ []) (λ k m. omega (arith, go k m (struck k) refl)),
            sums_le n (b ∷ []) (a ∷ added ∷ []) (λ k m. omega (arith, go k m (struck k) refl)),
          )
        where
          go : (k : ℕ) → k < n → (b : Bool) → struck k ≡ b → holds j c (G k) + cond (struck k) (holds j c (G' k)) 0 ≡ holds j c (G' k)
          go k m true q = rw (q, untold k m q) (omega arith)
          go k m false q = rw (q, kept k m q) (omega arith)

      support_code : c ≢ no_code → support n G' j c ≡ confessions n G' + (get_or same j 0 + sum n added)
      support_code d =
          support_parts n G' j c ∙ ap (λ (x : ℕ). confessions n G' + x) (sum_same n _ _ (λ k m. is_holds j c (G' k) d) ∙ sym total)

      -- no list holds the code of a null entry
      support_none : c ≡ no_code → support n G' j c < n - f
      support_none e =
          let z : sum n (λ k. is c (says_of j (G' k))) ≡ 0 = sum_same n _ (λ k. 0) (λ k m. is_other c (says_of j (G' k)) (λ q. tidy k m j l (q ∙ ap Some e))) ∙ sum_none n in
          omega (arith, support_parts n G' j c, few_confessions n f G' j c few)

      entry_shared : {need : ℕ} {v : ℤ} → need ≡ n - f - confessions n G' → v ≡ cond (leb need (get_or same j 0 + sum n added)) c no_code → entry_of v ≡ trusted n f G' j
      entry_shared {need} {v} p q = go (ℤ_discrete c no_code) (dec_le need (get_or same j 0 + sum n added))
        where
          either : (b : Bool) → c ≡ no_code → cond b c no_code ≡ no_code
          either true e = e
          either false e = refl

          go : Dec (c ≡ no_code) → Dec (need ≤ get_or same j 0 + sum n added) → entry_of v ≡ trusted n f G' j
          go (yes e) d = entry_null (q ∙ either (leb need (get_or same j 0 + sum n added)) e) ∙ sym (trusted_missed n f G' j c few (support_none e))
          go (no e) (yes r) =
              let z : v ≡ c = q ∙ rw (le-leb need (get_or same j 0 + sum n added) r) in
              rw z (entry_position e ∙ sym (trusted_reached n f G' j c few unhealed (omega (arith, support_code e))))
          go (no e) (no r) =
              entry_null (q ∙ rw (lt-leb need (get_or same j 0 + sum n added) (omega arith))) ∙ sym (trusted_missed n f G' j c few (omega (arith, support_code e)))

    entry_healed : has_confessed (G' j) ≡ true → {v : ℤ} (b : Bool) → v ≡ cond (struck j && true) no_code (cond b c no_code) → entry_of v ≡ trusted n f G' j
    entry_healed h {v} b q = entry_null (q ∙ go (struck j) refl) ∙ sym (trusted_healed n f G' j h)
      where
        same_code : (b : Bool) → c ≡ no_code → cond b c no_code ≡ no_code
        same_code true e = e
        same_code false e = refl

        go : (s : Bool) → struck j ≡ s → cond (s && true) no_code (cond b c no_code) ≡ no_code
        go true e = refl
        go false e = same_code b (S.healed j l (ap has_confessed (sym (kept j l e)) ∙ h))

    -- the code v that the receiver takes
    pub shared_trusted : {need x : ℕ} {v : ℤ} {b : Bool} → need ≡ n - f - confessions n G' → x ≡ get_or same j 0 + sum n added → b ≡ (struck j && has_confessed (G' j))
        → v ≡ cond b no_code (cond (leb need x) c no_code) → entry_of v ≡ trusted n f G' j
    shared_trusted {need} {x} {v} {b} p e m q = go (has_confessed (G' j)) refl
      where
        never : (s : Bool) (y : ℤ) → cond (s && false) no_code y ≡ y
        never true y = refl
        never false y = refl

        go : (h : Bool) → has_confessed (G' j) ≡ h → entry_of v ≡ trusted n f G' j
        go true h = entry_healed h (leb need x) (q ∙ rw (m, h))
        go false h = entry_shared h p (q ∙ rw (m, h, e) (never (struck j) _))
