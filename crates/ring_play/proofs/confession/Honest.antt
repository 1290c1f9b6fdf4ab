-- Lists that are heard as they are: the frame of a list that a frame can say reads back as the list, so what the unstruck heads say gives each receiver the lists
-- themselves.
use Rattle.std.proofs.Common.{◌≡◌, ℕ, ◌+◌, ◌<◌, Bool, true, false, cond, not, ◌&&◌, ltb, List, length, ℤ, sym, refl, ap, ◌∙◌, true≢false, arith, ltb-true}
use Rattle.terms.specs.declared.Table.{Table}
use Rattle.marks.specs.Marks.{bit_of, with_mark}
use Rattle.marks.proofs.Marks.{bit_none, with_same, with_other}
use Rattle.entries.specs.Tables.{table_at}
use Rattle.convergence.specs.Trust as trust
use Rattle.convergence.specs.Trust.{nothing, gave}
use Rattle.frame_spec.specs.Said.{listed, confessed, said}
use Rattle.frame_spec.specs.Written.{frame_of}
use Rattle.frame_spec.specs.Proper.{Proper}
use Rattle.frame_spec.proofs.ReadsBack.{reads_back}
use Rattle.settle_trust.specs.declared.Links.{Links}
use Rattle.settle_trust.specs.Received.{given_by}
use Rattle.head_spec.specs.Record.{given_of}
use Rattle.ring_play.specs.declared.Stage.{Stage}
use Rattle.ring_play.specs.Memory.{heads, hears, row_in, Sayable}
use Rattle.ring_play.proofs.round.Filling.{Filled, filled_none, filled_passed, filled_stored, filled_yet}
use Rattle.ring_play.specs.Inner.Confession.{replied, given_alike, OwnLinks, Unplanted}

-- ---- what the unstruck heads say

module _ (s : Stage) where
  abbrev unstruck : ℕ → Bool
  unstruck k = not (bit_of s.struck k)

  -- of the heads below k, which confess and which give their list
  pub record MarkedTo (k confesses lists : ℕ) : Type 0 where
    pub healed : Filled unstruck (λ j. bit_of s.before j) (λ j. false) k (bit_of confesses)
    pub others : Filled unstruck (λ j. not (bit_of s.before j)) (λ j. false) k (bit_of lists)

  pub marked_none : MarkedTo 0 0 0
  marked_none =
      record {
        healed = λ j. bit_none j ∙ filled_none unstruck (λ i. bit_of s.before i) (λ i. false) j;
        others = λ j. bit_none j ∙ filled_none unstruck (λ i. not (bit_of s.before i)) (λ i. false) j;
      }

  module _ (k : ℕ) {c l : ℕ} (h : MarkedTo k c l) where
    pub marked_passed : unstruck k ≡ false → MarkedTo (k + 1) c l
    marked_passed e = record { healed = filled_passed _ _ _ k h.healed e; others = filled_passed _ _ _ k h.others e }

    module _ (small : k < 32) (e : unstruck k ≡ true) where
      pub marked_healed : {c' : ℕ} → bit_of s.before k ≡ true → c' ≡ with_mark c k → MarkedTo (k + 1) c' l
      marked_healed b q =
          rw q
          record {
            healed = filled_stored _ _ _ k h.healed e (with_same c k small ∙ sym b) (λ j d. with_other c k small j d);
            others = filled_stored _ _ _ k h.others e (filled_yet _ _ _ k h.others ∙ sym (ap not b)) (λ j d. refl);
          }

      pub marked_listed : {l' : ℕ} → bit_of s.before k ≡ false → l' ≡ with_mark l k → MarkedTo (k + 1) c l'
      marked_listed b q =
          rw q
          record {
            healed = filled_stored _ _ _ k h.healed e (filled_yet _ _ _ k h.healed ∙ sym b) (λ j d. refl);
            others = filled_stored _ _ _ k h.others e (with_same l k small ∙ sym (ap not b)) (λ j d. with_other l k small j d);
          }

-- g says who confesses and who gives a list, and each list is what a frame can say
module _ (s : Stage) (small : s.phase < 65536) (marks : List ℕ) (lists : List (List ℤ)) (g : Links) (L : OwnLinks s marks g) (F : Sayable s marks lists) where
  abbrev n : ℕ
  n = heads s

  pub own_given : (k : ℕ) → given_by g lists k ≡ given_alike s marks lists k
  unfolding given_by given_alike replied
  own_given k =
      rw L.marks_kept (go (ltb k n) (bit_of s.struck k) (bit_of s.before k) (bit_of g.confessed k) (bit_of g.listed k) refl refl (L.confesses k) (L.lists k))
    where
      row : Table
      row = row_in marks lists k

      go : (a d b x y : Bool) → ltb k n ≡ a → bit_of s.before k ≡ b → x ≡ cond (a && not d) b false → y ≡ cond (a && not d) (not b) false
          → cond x trust.confessed (cond y (gave (table_at row)) nothing)
          ≡ cond (a && not d) (given_of (said n s.phase 1 k (frame_of n k s.phase (cond b confessed (listed row))))) nothing
      go true false true x y l e p q = rw p (sym (ap given_of (reads_back n k s.phase confessed (omega arith) small tt)))
      go true false false x y l e p q =
          let proper : Proper n (listed row) = rw e at (F k (ltb-true k n l)) in
          rw (p, q) (sym (ap given_of (reads_back n k s.phase (listed row) (omega arith) small proper)))
      go true true b x y l e p q = rw (p, q) refl
      go false d b x y l e p q = rw (p, q) refl

-- a struck head gives nothing
pub own_untold : (s : Stage) (marks : List ℕ) (lists : List (List ℤ)) (g : Links) → OwnLinks s marks g → length g.marks ≡ 32 → length lists ≡ 32 → Unplanted s g lists
unfolding given_by
own_untold s marks lists g L m l =
    record {
      marks_long = m;
      rows_long = l;
      untold = λ k e. let h : hears s k ≡ false = go (ltb k (heads s)) (bit_of s.struck k) e in rw (L.confesses k, L.lists k, h) refl;
    }
  where
    go : (a b : Bool) → (a && b) ≡ true → (a && not b) ≡ false
    go true true e = refl
    go true false e = absurd (true≢false (sym e))
    go false b e = refl
