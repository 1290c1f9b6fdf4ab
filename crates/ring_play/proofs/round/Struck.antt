-- The struck heads, one after another: the zeros below the lowest bit of a word, and what is left as it is by the heads that are passed.
use Rattle.std.proofs.Common.{◌≡◌, ℕ, zero, suc, ◌+◌, ◌-◌, ◌/◌, ◌%◌, ◌^◌, ◌<◌, ◌≤◌, true, false, eqb, Some, List, refl, ap, ◌∙◌, add-one, arith}
use native.Mathlib.Decide.{le_ind}
use lib.Count.{under, count_trailing_zeros}
use Rattle.terms.specs.Counting.{Each}
use Rattle.marks.specs.Marks.{bit_of}
use Rattle.marks.proofs.Marks.{bit_zero, bit_suc}
use Rattle.marks.proofs.Words.{word_high}
use Rattle.ring_play.specs.declared.Stage.{Stage}
use Rattle.ring_play.specs.Memory.{heads}
use Rattle.ring_play.specs.declared.round.StruckHeads.{StruckHeads}
use Rattle.ring_play.specs.Inner.Struck.{NextStruck}
use Rattle.ring_play.specs.Inner.Walk.{GivesStruck}

-- ---- the lowest bit of a word

zeros_below : (n m j : ℕ) → j < count_trailing_zeros n m → bit_of m j ≡ false
unfolding count_trailing_zeros
zeros_below zero m j l = absurd (omega arith)
zeros_below (suc n) m j l = go (m % 2) refl j l (λ j l. zeros_below n (m / 2) j l)
  where
    go : (d : ℕ) → m % 2 ≡ d → (j : ℕ) → j < under d (count_trailing_zeros n (m / 2)) → ((j : ℕ) → j < count_trailing_zeros n (m / 2) → bit_of (m / 2) j ≡ false) → bit_of m j ≡ false
    go zero e zero l rest = bit_zero m ∙ ap (λ (x : ℕ). eqb x 1) e
    go zero e (suc j) l rest = bit_suc m j ∙ rest j (omega arith)
    go (suc d) e j l rest = absurd (omega arith)

zeros_end : (n m : ℕ) → count_trailing_zeros n m < n → bit_of m (count_trailing_zeros n m) ≡ true
unfolding count_trailing_zeros
zeros_end zero m l = absurd (omega arith)
zeros_end (suc n) m l = go (m % 2) refl l (zeros_end n (m / 2))
  where
    go : (d : ℕ) → m % 2 ≡ d → under d (count_trailing_zeros n (m / 2)) < suc n → (count_trailing_zeros n (m / 2) < n → bit_of (m / 2) (count_trailing_zeros n (m / 2)) ≡ true)
        → bit_of m (under d (count_trailing_zeros n (m / 2))) ≡ true
    go zero e l rest = bit_suc m (count_trailing_zeros n (m / 2)) ∙ rest (omega arith)
    go (suc d) e l rest = let h : m % 2 ≡ 1 = omega arith in bit_zero m ∙ ap (λ (x : ℕ). eqb x 1) h

-- ---- the next struck head

module _ (s : Stage) (k : ℕ) (below : k < heads s) where
  -- the head that the lowest bit of the rest of the word is for, past the heads if it has none
  abbrev lowest : ℕ
  lowest = k + count_trailing_zeros 32 (s.struck / 2 ^ k)

  passed_bits : (j : ℕ) → k ≤ j → j < lowest → bit_of s.struck j ≡ false
  passed_bits j a b = word_high s.struck k j a ∙ zeros_below 32 (s.struck / 2 ^ k) (j - k) (omega arith)

  pub next_found : lowest < heads s → NextStruck s k lowest
  next_found l =
      let e : lowest - k ≡ count_trailing_zeros 32 (s.struck / 2 ^ k) = omega arith in
      record {
        from = omega arith;
        to = omega arith;
        passed = passed_bits;
        found = λ m. word_high s.struck k lowest (omega arith) ∙ rw e (zeros_end 32 (s.struck / 2 ^ k) (omega arith));
      }

  pub next_none : heads s ≤ lowest → NextStruck s k (heads s)
  next_none l = record { from = omega arith; to = omega arith; passed = λ j a b. passed_bits j a (omega arith); found = λ m. absurd (omega arith) }

-- what each head that is not struck leaves as it is, holds up to the next struck one
to_next : (P : ℕ → Type 0) (s : Stage) {k r : ℕ} → NextStruck s k r → ((j : ℕ) → bit_of s.struck j ≡ false → P j → P (j + 1)) → P k → P r
to_next P s {k} {r} h pass p = le_ind (λ j. j ≤ r → P j) (λ l. p) (λ j a q l. rw (← add-one j) (pass j (h.passed j a (omega arith)) (q (omega arith)))) r h.from (omega arith)

-- a walk over the struck heads of s: P holds of the heads that it has passed
pub record Walked (s : Stage) (P : ℕ → Type 0) (a : StruckHeads) : Type 0 where
  pub of : a.stage ≡ s
  pub passed : P a.from

pub walk_starts : {s : Stage} {P : ℕ → Type 0} {a : StruckHeads} → (a.stage ≡ s) × (a.from ≡ 0) → P 0 → Walked s P a
walk_starts e p = record { of = e.0; passed = rw e.1 p }

module _ {s : Stage} {P : ℕ → Type 0} {a : StruckHeads} (w : Walked s P a) (pass : (j : ℕ) → bit_of s.struck j ≡ false → P j → P (j + 1)) where
  -- the walk gives head k
  pub walk_turn : {k : ℕ} → k < heads a.stage → NextStruck a.stage a.from k → (k < heads s) × (bit_of s.struck k ≡ true) × P k
  walk_turn l n =
      let m = rw w.of at l in
      let h = rw w.of at n in
      (m, h.found m, to_next P s h pass w.passed)

  -- it has passed all heads
  pub walk_ends : NextStruck a.stage a.from (heads a.stage) → P (heads s)
  walk_ends n = to_next P s (rw w.of at n) pass w.passed

pub walk_on : {s : Stage} {P Q : ℕ → Type 0} {a b : StruckHeads} → Walked s P a → (k : ℕ) → GivesStruck a (Some k) b → Q (k + 1) → Walked s Q b
walk_on w k g q = record { of = g.0 ∙ w.of; passed = rw g.1.2 q }

-- the same is planted to receivers i and m by the struck heads below k
module _ (s : Stage) (plant : ℕ → ℕ → List ℕ) (i m : ℕ) where
  abbrev pub SameTo : ℕ → Type 0
  SameTo k = Each k (λ j. bit_of s.struck j ≡ true → plant j i ≡ plant j m)
