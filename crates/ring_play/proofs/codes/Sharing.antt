-- What the shared lists show: a code that does not lead has too few lists to reach the support, even if all struck links support it.
use Rattle.std.proofs.Common.{◌≡◌, ℕ, ◌+◌, ◌-◌, ◌*◌, ◌<◌, ◌≤◌, min, false, cond, ◌≢◌, List, [], ◌∷◌, get_or, ℤ, pos, sym, ap, ◌∙◌, arith}
use Rattle.marks.specs.Marks.{bit_of, count_below}
use Rattle.terms.specs.Counting.{Each, bit}
use Rattle.convergence.specs.Trust.{Given, is, support, has_confessed, confessions, says_of}
use Rattle.terms.proofs.Sums.{sums_le, sum_same}
use Rattle.settle_trust.specs.declared.Links.{Links}
use Rattle.settle_trust.specs.Received.{given_by}
use Rattle.settle_trust.proofs.Received.{confessed_given}
use Rattle.settle_trust.proofs.Trusted.{support_parts}
use Rattle.ring_play.specs.Inner.Codes.{no_code, holds}
use Rattle.ring_play.specs.Inner.Shares.{Shares}
use Rattle.ring_play.specs.Inner.Votes.{CodeLeads}
use Rattle.ring_play.proofs.codes.Codes.{is_le_holds}
use Rattle.ring_play.proofs.codes.Votes.{too_few}
use Rattle.ring_play.proofs.codes.Lists.{counted, counted_le}

pub confessions_marked : (n : ℕ) (g : Links) (lists : List (List ℤ)) → confessions n (given_by g lists) ≡ count_below g.confessed n
unfolding confessions
confessions_marked n g lists = sum_same n (λ k. bit (has_confessed (given_by g lists k))) (λ k. bit (bit_of g.confessed k)) (λ k l. ap bit (confessed_given g lists k))

-- codes: those that lead; codes': without those of links that confessed
module _ (n f struck : ℕ) (g : Links) (lists : List (List ℤ)) (codes codes' : List ℤ) (leads same : List ℕ) where
  abbrev G : ℕ → Given
  G = given_by g lists

  is_confessed : (j : ℕ) → has_confessed (G j) ≡ bit_of g.confessed j
  is_confessed j = confessed_given g lists j

  support_few : (j : ℕ) (w : ℤ) → support n G j w ≤ confessions n G + counted g lists j n w
  support_few j w =
      omega (
        arith,
        support_parts n G j w,
        sums_le n ((λ k. is w (says_of j (G k))) ∷ []) ((λ k. holds j w (G k)) ∷ []) (λ k l. omega (arith, is_le_holds j w (G k))),
      )

  module _ {need count : ℕ} (small : n ≤ 32) (needed : need ≡ n - f - count_below g.confessed (min n 32)) (enough : struck < need)
      (led : Each n (λ j. CodeLeads (counted g lists j n) count (get_or codes j (pos 0)) (get_or leads j 0)))
      (apart : Each n (λ j. bit_of g.confessed j ≡ false → count < get_or leads j 0 + 2 * (need - struck)))
      (tallied : Each n (λ j. get_or same j 0 ≡ counted g lists j n (get_or codes j (pos 0))))
      (dropped : Each n (λ j. get_or codes' j (pos 0) ≡ cond (bit_of g.confessed j) no_code (get_or codes j (pos 0)))) where
    kept : (j : ℕ) → j < n → bit_of g.confessed j ≡ false → get_or codes' j (pos 0) ≡ get_or codes j (pos 0)
    kept j l e = dropped j l ∙ rw e

    needs : need ≡ n - f - confessions n G
    needs =
        let m : min n 32 ≡ n = omega arith in
        needed ∙ ap (λ (x : ℕ). n - f - count_below g.confessed x) m ∙ ap (λ (x : ℕ). n - f - x) (sym (confessions_marked n g lists))

    pub shares_all : Shares n f struck G codes' same
    shares_all =
        record {
          small = small;
          enough = omega (arith, needs);
          few = λ j l. omega (arith, tallied j l, counted_le g lists j n (get_or codes j (pos 0)));
          counts = λ j l e. tallied j l ∙ ap (counted g lists j n) (sym (kept j l (sym (is_confessed j) ∙ e)));
          alone = λ j l e w d. lonely j l (sym (is_confessed j) ∙ e) w d;
          healed = λ j l e. dropped j l ∙ rw (sym (is_confessed j) ∙ e);
        }
      where
        lonely : (j : ℕ) → j < n → bit_of g.confessed j ≡ false → (w : ℤ) → w ≢ get_or codes' j (pos 0) → support n G j w + struck < n - f
        lonely j l e w d =
            omega (arith, needs, support_few j w, too_few (led j l) (apart j l e) w (λ z. d (z ∙ sym (kept j l e))))
