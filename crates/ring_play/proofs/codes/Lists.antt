-- The lists that all receivers hear, link by link: a link that gives a list adds its code at entry j, and any other adds nothing.
use Rattle.std.proofs.Common.{◌≡◌, ℕ, ◌+◌, ◌%◌, ◌<◌, ◌≤◌, Bool, true, false, cond, not, ◌&&◌, List, [], ◌∷◌, get_or, ℤ, sym, refl, ap, ◌∙◌, true≢false, add-one, arith}
use Rattle.terms.specs.Positions.{eq_z}
use Rattle.terms.specs.Entry.{Entry}
use Rattle.marks.specs.Marks.{bit_of}
use Rattle.entries.specs.Entries.{entry_at}
use Rattle.terms.specs.Counting.{sum, bit}
use Rattle.convergence.specs.Trust.{Given, nothing, confessed, gave}
use Rattle.terms.proofs.Sums.{sums_le, sum_one, bit_le}
use Rattle.settle_trust.specs.declared.Links.{Links}
use Rattle.settle_trust.specs.Received.{given_by}
use Rattle.ring_play.specs.Inner.Codes.{code_at, holds}
use Rattle.ring_play.specs.Inner.Votes.{Voted, CodeLeads, gives_list}
use Rattle.ring_play.proofs.codes.Codes.{code_entry, holds_le}
use Rattle.ring_play.proofs.codes.Votes.{leads_same, vote_step}

sum_step : (g : ℕ → ℕ) (k : ℕ) → sum (k + 1) g ≡ sum k g + g k
unfolding sum
sum_step g k = rw add-one

module _ (g : Links) (lists : List (List ℤ)) (j : ℕ) where
  abbrev G : ℕ → Given
  G = given_by g lists

  abbrev x : ℕ → ℤ
  x k = code_at (get_or g.marks k 0) (get_or lists k []) j

  -- how many of the first k links give a list with the code w
  abbrev pub counted : ℕ → ℤ → ℕ
  counted k w = sum k (λ i. holds j w (G i))

  holds_given : (k : ℕ) → gives_list g.confessed g.listed k ≡ true → (w : ℤ) → holds j w (G k) ≡ bit (eq_z (x k) w)
  unfolding given_by
  holds_given k e w = go (bit_of g.confessed k) (bit_of g.listed k) e
    where
      l : ℕ → Entry
      l = entry_at (get_or g.marks k 0) (get_or lists k [])

      go : (a b : Bool) → (not a && b) ≡ true → holds j w (cond a confessed (cond b (gave l) nothing)) ≡ bit (eq_z (x k) w)
      go true b q = absurd (true≢false (sym q))
      go false true q = ap (λ (v : ℤ). bit (eq_z v w)) (sym (code_entry (get_or g.marks k 0) (get_or lists k []) j))
      go false false q = absurd (true≢false (sym q))

  holds_not : (k : ℕ) → gives_list g.confessed g.listed k ≡ false → (w : ℤ) → holds j w (G k) ≡ 0
  unfolding given_by
  holds_not k e w = go (bit_of g.confessed k) (bit_of g.listed k) e
    where
      l : ℕ → Entry
      l = entry_at (get_or g.marks k 0) (get_or lists k [])

      go : (a b : Bool) → (not a && b) ≡ false → holds j w (cond a confessed (cond b (gave l) nothing)) ≡ 0
      go true b q = refl
      go false true q = absurd (true≢false q)
      go false false q = refl

  pub counted_le : (k : ℕ) (w : ℤ) → counted k w ≤ k
  counted_le k w = omega (arith, sum_one k, sums_le k ((λ i. holds j w (G i)) ∷ []) ((λ i. 1) ∷ []) (λ i l. omega (arith, holds_le j w (G i))))

  module _ (k : ℕ) {L l : ℕ} {c : ℤ} (h : CodeLeads (counted k) L c l) where
    pub vote_given : gives_list g.confessed g.listed k ≡ true → {c' : ℤ} {l' : ℕ} → Voted (x k) c l c' l' → CodeLeads (counted (k + 1)) (L + 1) c' l'
    vote_given e v = vote_step (counted k) (counted (k + 1)) (x k) (λ w. sum_step _ k ∙ ap (λ (y : ℕ). counted k w + y) (holds_given k e w)) h v

    pub vote_skipped : gives_list g.confessed g.listed k ≡ false → CodeLeads (counted (k + 1)) L c l
    vote_skipped e = leads_same (λ w. omega (arith, sum_step (λ i. holds j w (G i)) k, holds_not k e w)) h

  module _ (k : ℕ) (w : ℤ) {s : ℕ} (h : s ≡ counted k w) where
    pub tally_given : gives_list g.confessed g.listed k ≡ true → k < 32 → {s' : ℕ} → s' ≡ (s + bit (eq_z (x k) w)) % 4294967296 → s' ≡ counted (k + 1) w
    tally_given e m q =
        omega (arith, q, counted_le k w, bit_le (eq_z (x k) w), sum_step (λ i. holds j w (G i)) k, holds_given k e w)

    pub tally_skipped : gives_list g.confessed g.listed k ≡ false → s ≡ counted (k + 1) w
    tally_skipped e = omega (arith, sum_step (λ i. holds j w (G i)) k, holds_not k e w)
