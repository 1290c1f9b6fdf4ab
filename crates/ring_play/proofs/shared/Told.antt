-- The trusted entries of a receiver, from what is given all alike and what is planted to it. The struck links give nothing alike, so each of them adds what is planted: to the
-- lists that have a code, or to the confessions.
use Rattle.std.specs.Prelude.{Some}
use Rattle.std.proofs.Common.{◌≡◌, ℕ, ◌+◌, ◌-◌, ◌≤◌, min, Bool, true, false, cond, ◌&&◌, List, [], ◌∷◌, get_or, ℤ, pos, sym, refl, ap, ◌∙◌, arith, lt-ltb}
use Rattle.terms.specs.Positions.{is_position}
use Rattle.marks.specs.Marks.{bit_of, count_below}
use Rattle.terms.specs.Counting.{Each, sum, bit}
use Rattle.convergence.specs.Trust.{Given, has_confessed, confessions, says_of, trusted}
use Rattle.terms.proofs.Sums.{sums_le, sum_same}
use Rattle.convergence.proofs.Support.{not_null}
use Rattle.frame_spec.specs.Said.{Meaning, refused, collected, listed, confessed, said}
use Rattle.frame_spec.proofs.OneMeaning.{said_proper}
use Rattle.settle_trust.specs.declared.Links.{Links}
use Rattle.settle_trust.specs.Received.{given_by}
use Rattle.ring_play.specs.Inner.Codes.{no_code, holds}
use Rattle.ring_play.specs.Inner.Shares.{Shares}
use Rattle.ring_play.proofs.codes.Codes.{position_code}
use Rattle.ring_play.proofs.codes.Sharing.{confessions_marked}
use Rattle.ring_play.proofs.codes.Trusting.{shared_trusted}
use Rattle.head_spec.specs.Record.{given_of}
use Rattle.head_spec.proofs.Range.{listed_position}
use Rattle.ring_play.specs.declared.Stage.{Stage}
use Rattle.ring_play.specs.Memory.{heads}
use Rattle.ring_play.specs.Inner.Planted.{is_struck, given_or_planted, position_settled, Alike}
use Rattle.ring_play.specs.Inner.Told.{planted_given, Told, SharedBy, settled_by, needed_here, taken_here}
use Rattle.ring_play.proofs.shared.Settling.{settled_trusted}

-- a list that a frame gives holds positions in range
pub given_positions : (n p r k : ℕ) (bytes : List ℕ) → n ≤ 32 → Each n (λ j. (u : ℤ) → says_of j (given_of (said n p r k bytes)) ≡ Some u → is_position u ≡ true)
given_positions n p r k bytes size j l u q = go (said n p r k bytes) refl q
  where
    go : (m : Meaning) → said n p r k bytes ≡ m → says_of j (given_of m) ≡ Some u → is_position u ≡ true
    go (refused c) e h = absurd (not_null refl h)
    go (collected x) e h = absurd (not_null refl h)
    go (listed t) e h = listed_position n t (said_proper n p r k bytes e tt size) j l u h
    go confessed e h = absurd (not_null refl h)

-- g and rows hold what is given all alike; n: the heads played; struck: how many of them are struck
abbrev pub shared_by : (s : Stage) (g : Links) (rows : List (List ℤ)) {n struck need : ℕ} {codes : List ℤ} {counts : List ℕ} → n ≡ heads s
    → struck ≡ count_below s.struck n → Shares n s.f struck (given_by g rows) codes counts → need ≡ n - s.f - count_below g.confessed (min n 32)
    → SharedBy s need codes counts
shared_by s g rows {n} p q S e =
    let small : min n 32 ≡ heads s = omega arith in
    record {
      given = given_by g rows;
      shares = rw (q, p) at S;
      needed = e ∙ rw (small, p) (ap (λ (x : ℕ). heads s - s.f - x) (sym (confessions_marked (heads s) g rows)));
    }

module _ (s : Stage) (plant : ℕ → ℕ → List ℕ) (i : ℕ) {need : ℕ} {codes : List ℤ} {counts : List ℕ} (S : SharedBy s need codes counts) where
  abbrev G : ℕ → Given
  G = S.given

  abbrev G' : ℕ → Given
  G' = given_or_planted s G plant i

  planted : (k : ℕ) → is_struck s k ≡ true → G' k ≡ planted_given s plant i k
  unfolding given_or_planted
  planted k e = rw e

  kept : (k : ℕ) → is_struck s k ≡ false → G' k ≡ G k
  unfolding given_or_planted
  kept k e = rw e

  struck_count : sum (heads s) (λ k. bit (is_struck s k)) ≡ count_below s.struck (heads s)
  struck_count = sum_same (heads s) _ _ (λ k l. ap (λ (b : Bool). bit (b && bit_of s.struck k)) (lt-ltb k (heads s) l))

  abbrev n : ℕ
  n = heads s

  module _ (A : Alike s G) where
    tidy : Each (heads s) (λ k. Each (heads s) (λ j. says_of j (G' k) ≡ Some no_code → ⊥))
    tidy k l j m q = go (is_struck s k) refl
      where
        go : (b : Bool) → is_struck s k ≡ b → ⊥
        go true e = position_code no_code (given_positions (heads s) s.phase 1 k (plant k i) (omega arith) j m no_code (sym (ap (says_of j) (planted k e)) ∙ q)) refl
        go false e = position_code no_code (A.ranged k l j m no_code (sym (ap (says_of j) (kept k e)) ∙ q)) refl

    module _ {same : List ℕ} {confessed : ℕ} (T : Told s plant i codes counts same confessed) where
      confessed_here : (k : ℕ) → bit (has_confessed (G' k)) ≡ bit (has_confessed (G k)) + bit (bit_of confessed k)
      confessed_here k = go (is_struck s k) refl
        where
          go : (b : Bool) → is_struck s k ≡ b → bit (has_confessed (G' k)) ≡ bit (has_confessed (G k)) + bit (bit_of confessed k)
          go true e = rw (T.confesses k, e, planted k e, A.untold k e) (omega arith)
          go false e = rw (T.confesses k, e, kept k e) (omega arith)

      confessions_here : confessions n G' ≡ confessions n G + count_below confessed n
      unfolding confessions
      confessions_here =
          let a : ℕ → ℕ = λ k. bit (has_confessed (G' k)) in
          let b : ℕ → ℕ = λ k. bit (has_confessed (G k)) in
          let c : ℕ → ℕ = λ k. bit (bit_of confessed k) in
          omega (
            arith,
            sums_le n (a ∷ []) (b ∷ c ∷ []) (λ k l. omega (arith, confessed_here k)),
            sums_le n (b ∷ c ∷ []) (a ∷ []) (λ k l. omega (arith, confessed_here k)),
          )

      marked_here : (j : ℕ) → bit_of confessed j ≡ (is_struck s j && has_confessed (G' j))
      marked_here j = T.confesses j ∙ go (is_struck s j) refl
        where
          go : (b : Bool) → is_struck s j ≡ b → cond b (has_confessed (planted_given s plant i j)) false ≡ (b && has_confessed (G' j))
          go true e = ap has_confessed (sym (planted j e))
          go false e = refl

      added_here : (j : ℕ) (c : ℤ) → sum n (λ k. cond (bit_of s.struck k) (holds j c (planted_given s plant i k)) 0) ≡ sum n (λ k. cond (is_struck s k) (holds j c (G' k)) 0)
      added_here j c = sum_same n _ _ go
        where
          pick : (k : ℕ) (b : Bool) → is_struck s k ≡ b → cond b (holds j c (planted_given s plant i k)) 0 ≡ cond b (holds j c (G' k)) 0
          pick k true e = ap (holds j c) (sym (planted k e))
          pick k false e = refl

          go : Each n (λ k. cond (bit_of s.struck k) (holds j c (planted_given s plant i k)) 0 ≡ cond (is_struck s k) (holds j c (G' k)) 0)
          go k l =
              let q : is_struck s k ≡ bit_of s.struck k = rw (lt-ltb k (heads s) l) in
              pick k (bit_of s.struck k) q ∙ ap (λ (b : Bool). cond b (holds j c (G' k)) 0) (sym q)

      trusted_here : Each n (λ j. taken_here s need codes same confessed j ≡ trusted n s.f G' j)
      trusted_here j l =
          let needs : needed_here s need confessed ≡ n - s.f - confessions n G' = omega (arith, S.needed, confessions_here) in
          shared_trusted n s.f (count_below s.struck n) G G' (is_struck s) codes counts S.shares struck_count (λ k m. A.untold k) (λ k m. kept k) tidy j l
          needs (T.counts j l ∙ ap (λ (x : ℕ). get_or counts j 0 + x) (added_here j (get_or codes j (pos 0)))) (marked_here j) refl

      -- what the receiver settles
      pub settled_here : settled_by s (taken_here s need codes same confessed) ≡ position_settled s G'
      settled_here = settled_trusted s G' _ trusted_here
