-- What the links gave, one link heard after the other. Hearing on link k marks link k alone and stores its row alone, so a link that had given nothing
-- gave what was said on it, and the other links gave what they did.
use Rattle.std.proofs.Common.{◌≡◌, ℕ, ◌+◌, ◌<◌, Bool, true, false, cond, ◌≢◌, List, [], length, set, ℤ, sym, refl, ap, ◌∙◌, arith, length-set, get_or-set_other, get_or-set_same}
use mathlib.Core.Path.{fun_ext}
use native.Mathlib.Decide.{ℕ_discrete}
use Rattle.terms.specs.Entry.{Entry}
use Rattle.marks.specs.Marks.{bit_of}
use Rattle.marks.proofs.Marks.{with_same, with_other}
use Rattle.convergence.specs.Trust as trust
use Rattle.convergence.specs.Trust.{Given, nothing, gave, has_confessed}
use Rattle.frame_spec.specs.Said.{Meaning, refused, collected, listed, confessed}
use Rattle.settle_trust.specs.declared.Links.{Links}
use Rattle.settle_trust.specs.Received.{given_by}
use Rattle.settle_trust.proofs.Received.{confessed_given}
use Rattle.head_spec.specs.Record.{given_of}
use Rattle.ring_play.specs.declared.Stage.{Stage}
use Rattle.ring_play.specs.Inner.Confession.{links_with, rows_with, Received}
use Rattle.ring_play.proofs.round.Filling.{filled_to, filled_passed, filled_stored, filled_yet}

-- ---- one link

both_long : (g : Links) (rows : List (List ℤ)) (k : ℕ) (m : Meaning) → (length (links_with g k m).marks ≡ length g.marks) × (length (rows_with rows k m) ≡ length rows)
both_long g rows k (refused c) = (refl, refl)
both_long g rows k (collected e) = (refl, refl)
both_long g rows k (listed t) = (length-set g.marks k t.marks, length-set rows k t.entries)
both_long g rows k confessed = (refl, refl)

module _ (g : Links) (rows : List (List ℤ)) (k : ℕ) where
  module _ (small : k < 32) where
    given_other : (m : Meaning) (j : ℕ) → j ≢ k → given_by (links_with g k m) (rows_with rows k m) j ≡ given_by g rows j
    unfolding given_by
    given_other (refused c) j d = refl
    given_other (collected e) j d = refl
    given_other (listed t) j d =
        rw (with_other g.listed k small j d, get_or-set_other g.marks k j t.marks 0 d, get_or-set_other rows k j t.entries [] d)
    given_other confessed j d = rw (with_other g.confessed k small j d)

    given_said : length g.marks ≡ 32 → length rows ≡ 32 → given_by g rows k ≡ nothing → (m : Meaning) → given_by (links_with g k m) (rows_with rows k m) k ≡ given_of m
    unfolding given_by
    given_said a b e (refused c) = e
    given_said a b e (collected x) = e
    given_said a b e (listed t) =
        rw (
          sym (confessed_given g rows k) ∙ ap has_confessed e,
          with_same g.listed k small,
          get_or-set_same g.marks k t.marks 0 (omega arith),
          get_or-set_same rows k t.entries [] (omega arith),
        )
    given_said a b e confessed = rw (with_same g.confessed k small)

  -- a row of a link that gave nothing is not read
  unread : (a b : Bool) (x y : ℕ → Entry) → cond a trust.confessed (cond b (gave x) nothing) ≡ nothing → cond a trust.confessed (cond b (gave y) nothing) ≡ cond a trust.confessed (cond b (gave x) nothing)
  unread true b x y e = let z : ◌≡◌ {A = ℕ} 0 1 = cc in absurd (omega arith)
  unread false true x y e = let z : ◌≡◌ {A = ℕ} 0 1 = cc in absurd (omega arith)
  unread false false x y e = refl

  pub rows_kept : given_by g rows k ≡ nothing → (m : Meaning) → given_by g (rows_with rows k m) ≡ given_by g rows
  unfolding given_by
  rows_kept e (refused c) = refl
  rows_kept e (collected x) = refl
  rows_kept e confessed = refl
  rows_kept e (listed t) = fun_ext (λ j. go j (ℕ_discrete j k))
    where
      go : (j : ℕ) → Dec (j ≡ k) → given_by g (set rows k t.entries) j ≡ given_by g rows j
      go j (yes q) = rw q (unread (bit_of g.confessed k) (bit_of g.listed k) _ _ e)
      go j (no d) = rw (get_or-set_other rows k j t.entries [] d)

-- ---- link by link

module _ (picked : ℕ → Bool) (new old : ℕ → Given) (g : Links) (rows : List (List ℤ)) (k : ℕ) (h : Received g rows (filled_to picked new old k)) where
  received_passed : picked k ≡ false → Received g rows (filled_to picked new old (k + 1))
  received_passed e = record { marks_long = h.marks_long; rows_long = h.rows_long; gives = filled_passed picked new old k h.gives e }

  -- m: what link k said, which had given nothing
  pub received_heard : (m : Meaning) {g' : Links} {rows' : List (List ℤ)} → k < 32 → old k ≡ nothing → picked k ≡ true → given_of m ≡ new k
      → g' ≡ links_with g k m → rows' ≡ rows_with rows k m → Received g' rows' (filled_to picked new old (k + 1))
  received_heard m small yet e q p r =
      rw (p, r)
      record {
        marks_long = (both_long g rows k m).0 ∙ h.marks_long;
        rows_long = (both_long g rows k m).1 ∙ h.rows_long;
        gives =
            filled_stored picked new old k h.gives e
            (given_said g rows k small h.marks_long h.rows_long (filled_yet picked new old k h.gives ∙ yet) m ∙ q)
            (given_other g rows k small m);
      }

-- what the struck heads below k gave; with the links g₀ the rows give what they gave at first
module _ (s : Stage) (new old : ℕ → Given) (g₀ : Links) (rows₀ : List (List ℤ)) (g : Links) (rows : List (List ℤ)) where
  abbrev pub ReceivedTo : ℕ → Type 0
  ReceivedTo k = Received g rows (filled_to (bit_of s.struck) new old k) × (given_by g₀ rows ≡ given_by g₀ rows₀)

  pub received_pass : (k : ℕ) → bit_of s.struck k ≡ false → ReceivedTo k → ReceivedTo (k + 1)
  received_pass k b h = (received_passed (bit_of s.struck) new old g rows k h.0 b, h.1)
