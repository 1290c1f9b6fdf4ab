-- What a link adds when it is heard: a list counts for each entry at which it has the code, a confession is marked, and anything else adds nothing. Link by link, a count is the sum
-- of what the struck links add.
use Rattle.std.proofs.Common.{◌≡◌, ℕ, ◌+◌, ◌<◌, ◌≤◌, Bool, true, false, cond, ◌≢◌, List, [], ◌∷◌, get_or, ℤ, pos, refl, ap, ◌∙◌, arith}
use Rattle.terms.specs.Positions.{eq_z}
use Rattle.terms.specs.declared.Table.{Table}
use Rattle.entries.specs.Tables.{table_at}
use Rattle.marks.specs.Marks.{bit_of, with_mark}
use Rattle.marks.proofs.Marks.{bit_none, with_same, with_other}
use Rattle.marks.proofs.Counts.{sum_next}
use Rattle.terms.specs.Counting.{Each, sum, bit}
use Rattle.convergence.specs.Trust.{gave, has_confessed}
use Rattle.terms.proofs.Sums.{sums_le, sum_one, bit_le}
use Rattle.frame_spec.specs.Said.{said}
use Rattle.ring_play.specs.Inner.Codes.{code_at, holds, Tallied}
use Rattle.ring_play.proofs.codes.Codes.{code_entry, holds_le}
use Rattle.head_spec.specs.Record.{given_of}
use Rattle.ring_play.specs.declared.Stage.{Stage}
use Rattle.ring_play.specs.Memory.{heads}
use Rattle.ring_play.proofs.round.Filling.{Filled, filled_none, filled_passed, filled_stored, filled_yet}
use Rattle.ring_play.specs.Inner.Told.{planted_given, Counted}

module _ (n : ℕ) (codes : List ℤ) (k : ℕ) (same : List ℕ) (marked : ℕ) where
  pub counted_list : (t : Table) {same' : List ℕ} → Tallied n t.marks t.entries codes same same' → Counted n codes k (gave (table_at t)) same marked same' marked
  counted_list t {same'} T = record { counts = go; confesses = refl }
    where
      go : (j : ℕ) → j < n → get_or same j 0 < 4294967295 → get_or same' j 0 ≡ get_or same j 0 + holds j (get_or codes j (pos 0)) (gave (table_at t))
      go j l m =
          let c = get_or codes j (pos 0) in
          omega (arith, T.counts j l, ap (λ (v : ℤ). bit (eq_z v c)) (code_entry t.marks t.entries j), bit_le (eq_z (code_at t.marks t.entries j) c))

-- ---- what is planted to receiver i, link by link

-- n: the heads played; bytes: what is planted
pub counted_planted : (s : Stage) (plant : ℕ → ℕ → List ℕ) (i : ℕ) (codes : List ℤ) (k : ℕ) {same : List ℕ} {marked : ℕ} {same' : List ℕ} {marked' : ℕ} {n : ℕ} {bytes : List ℕ} → n ≡ heads s
    → bytes ≡ plant k i → Counted n codes k (given_of (said n s.phase 1 k bytes)) same marked same' marked'
    → Counted (heads s) codes k (planted_given s plant i k) same marked same' marked'
counted_planted s plant i codes k p q h = rw (p, q) at h

module _ (s : Stage) (plant : ℕ → ℕ → List ℕ) (i : ℕ) (codes : List ℤ) (same : List ℕ) where
  -- what link k adds to the count of entry j
  abbrev pub adds : ℕ → ℕ → ℕ
  adds j k = cond (bit_of s.struck k) (holds j (get_or codes j (pos 0)) (planted_given s plant i k)) 0

  -- the struck links below k gave what is planted: the counts, and which of them confessed
  pub record PlantedTo (k : ℕ) (counts : List ℕ) (marked : ℕ) : Type 0 where
    pub counted : Each (heads s) (λ j. get_or counts j 0 ≡ get_or same j 0 + sum k (adds j))
    pub confesses : Filled (bit_of s.struck) (λ j. has_confessed (planted_given s plant i j)) (λ j. false) k (bit_of marked)

  pub told_none : PlantedTo 0 same 0
  unfolding sum
  told_none = record { counted = λ j l. omega arith; confesses = λ j. bit_none j ∙ filled_none (bit_of s.struck) (λ k. has_confessed (planted_given s plant i k)) (λ k. false) j }

  adds_le : (j k : ℕ) → adds j k ≤ 1
  adds_le j k = go (bit_of s.struck k)
    where
      go : (b : Bool) → cond b (holds j (get_or codes j (pos 0)) (planted_given s plant i k)) 0 ≤ 1
      go true = holds_le j (get_or codes j (pos 0)) (planted_given s plant i k)
      go false = omega arith

  added_le : (j k : ℕ) → sum k (adds j) ≤ k
  added_le j k = omega (arith, sum_one k, sums_le k (adds j ∷ []) ((λ m. 1) ∷ []) (λ m l. omega (arith, adds_le j m)))

  module _ (k : ℕ) {counts : List ℕ} {marked : ℕ} (h : PlantedTo k counts marked) where
    told_passed : bit_of s.struck k ≡ false → PlantedTo (k + 1) counts marked
    told_passed e =
        record {
          counted = λ j l. h.counted j l ∙ omega (arith, sum_next (adds j) k refl refl, none j);
          confesses = filled_passed _ _ _ k h.confesses e;
        }
      where
        none : (j : ℕ) → adds j k ≡ 0
        none j = rw e

    module _ (small : k < 32) (few : Each (heads s) (λ j. get_or same j 0 ≤ 32)) (e : bit_of s.struck k ≡ true) {counts' : List ℕ} {marked' : ℕ}
        (C : Counted (heads s) codes k (planted_given s plant i k) counts marked counts' marked') where
      stored : (b : Bool) → marked' ≡ cond b (with_mark marked k) marked → bit_of marked' k ≡ b
      stored true q = rw q (with_same marked k small)
      stored false q = rw q (filled_yet _ _ _ k h.confesses)

      others : (b : Bool) → marked' ≡ cond b (with_mark marked k) marked → (j : ℕ) → j ≢ k → bit_of marked' j ≡ bit_of marked j
      others true q j d = rw q (with_other marked k small j d)
      others false q j d = rw q refl

      pub told_heard : PlantedTo (k + 1) counts' marked'
      told_heard =
          record {
            counted = λ j l. omega (arith, C.counts j l (omega (arith, h.counted j l, few j l, added_le j k)), h.counted j l, sum_next (adds j) k refl refl, one j);
            confesses = filled_stored _ _ _ k h.confesses e (stored (has_confessed (planted_given s plant i k)) C.confesses) (others (has_confessed (planted_given s plant i k)) C.confesses);
          }
        where
          one : (j : ℕ) → adds j k ≡ holds j (get_or codes j (pos 0)) (planted_given s plant i k)
          one j = rw e

  pub told_pass : {counts : List ℕ} {marked : ℕ} (k : ℕ) → bit_of s.struck k ≡ false → PlantedTo k counts marked → PlantedTo (k + 1) counts marked
  told_pass k b h = told_passed k h b
