-- What a receiver settles in a confession round: the unstruck heads give all alike, and the struck ones what is planted.
use Rattle.std.specs.Prelude.{Some}
use Rattle.std.proofs.Common.{◌≡◌, ℕ, ◌<◌, Bool, true, false, cond, not, ◌&&◌, ltb, List, ℤ, sym, refl, ap, ◌∙◌, true≢false, arith, lt-ltb}
use Rattle.terms.specs.Positions.{is_position, rounding}
use Rattle.marks.specs.Marks.{bit_of}
use Rattle.convergence.specs.Settling.{two_round_rule}
use Rattle.convergence.specs.Trust.{Given, nothing, says_of, trusted}
use Rattle.convergence.proofs.Support.{not_null}
use Rattle.settle_midpoint.specs.Answers.{settling}
use Rattle.settle_midpoint.specs.Settled.{Settled}
use Rattle.frame_spec.specs.Said.{said}
use Rattle.frame_spec.specs.Written.{frame_of}
use Rattle.settle_trust.specs.declared.Links.{Links}
use Rattle.settle_trust.specs.Received.{given_by}
use Rattle.head_spec.specs.Record.{given_of}
use Rattle.ring_play.specs.declared.Stage.{Stage}
use Rattle.ring_play.specs.Memory.{heads, hears, replies, given_entry, position_of, new_position}
use Rattle.ring_play.specs.Inner.Planted.{is_struck, given_or_planted, position_settled, Alike}
use Rattle.ring_play.proofs.shared.Settling.{settled_same}
use Rattle.ring_play.proofs.shared.Told.{given_positions}
use Rattle.ring_play.specs.Inner.Confession.{replied, RowsKept, given_alike}

-- ---- what is settled

-- x: what settling answered, from n heads, rounded by r
pub settled_is : (s : Stage) (G : ℕ → Given) {n r : ℕ} {x : Settled} → n ≡ heads s → r ≡ rounding s.phase
    → x ≡ settling r n (two_round_rule s.f) (trusted n s.f G) → position_of x ≡ position_settled s G
unfolding position_settled
settled_is s G p r e = ap position_of e ∙ rw (p, r)

-- ---- what is planted

-- g gives the same with other rows
module _ (s : Stage) (g : Links) (rows rows' : List (List ℤ)) (h : RowsKept g rows rows') where
  pub planted_kept : (plant : ℕ → ℕ → List ℕ) (i : ℕ) → given_or_planted s (given_by g rows') plant i ≡ given_or_planted s (given_by g rows) plant i
  planted_kept plant i = ap (λ (G : ℕ → Given). given_or_planted s G plant i) h.gives

-- the links and the rows hold what the unstruck heads give alike
module _ (s : Stage) (marks : List ℕ) (lists : List (List ℤ)) (g : Links) (rows : List (List ℤ)) (gives : (k : ℕ) → given_by g rows k ≡ given_alike s marks lists k) where
  untold_given : (k : ℕ) → is_struck s k ≡ true → given_by g rows k ≡ nothing
  unfolding given_alike
  untold_given k e = gives k ∙ go (ltb k (heads s)) (bit_of s.struck k) _ e
    where
      go : (l b : Bool) (x : Given) → (l && b) ≡ true → cond (l && not b) x nothing ≡ nothing
      go true true x e = refl
      go true false x e = absurd (true≢false (sym e))
      go false b x e = refl

  pub alike_given : Alike s (given_by g rows)
  unfolding given_alike replied
  alike_given = record { untold = untold_given; ranged = λ k l j m u q. go k j m u (hears s k) (sym (ap (says_of j) (gives k)) ∙ q) }
    where
      go : (k j : ℕ) → j < heads s → (u : ℤ) (b : Bool) → says_of j (cond b (given_of (replied s marks lists k)) nothing) ≡ Some u → is_position u ≡ true
      go k j m u true q = given_positions (heads s) s.phase 1 k _ (omega arith) j m u q
      go k j m u false q = absurd (not_null refl q)

  module _ (plant : ℕ → ℕ → List ℕ) (i : ℕ) where
    given_same : (k : ℕ) → k < heads s → given_or_planted s (given_by g rows) plant i k ≡ given_entry s marks lists plant i k
    unfolding given_or_planted given_alike given_entry replied
    given_same k l = rw (gives k, lt-ltb k (heads s) l) (go (bit_of s.struck k))
      where
        go : (b : Bool) → cond b (given_of (said (heads s) s.phase 1 k (plant k i)))
            (cond (not b) (given_of (said (heads s) s.phase 1 k (frame_of (heads s) k s.phase (replies s marks lists k)))) nothing)
            ≡ given_of (said (heads s) s.phase 1 k (cond b (plant k i) (frame_of (heads s) k s.phase (replies s marks lists k))))
        go true = refl
        go false = refl

    pub new_settled : position_settled s (given_or_planted s (given_by g rows) plant i) ≡ new_position s marks lists plant i
    unfolding position_settled new_position
    new_settled = settled_same s _ _ given_same
