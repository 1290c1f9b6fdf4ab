-- What a receiver settles in a confession round depends on what links 0 .. n - 1 give alone, and on that by its trusted entries. So receivers to which the same is
-- planted settle the same, and so do receivers with the same codes.
use Rattle.std.specs.Prelude.{Some, Option}
use Rattle.std.proofs.Common.{◌≡◌, ℕ, ◌<◌, Bool, true, false, cond, List, get_or, ℤ, pos, refl, ap, ◌∙◌, lt-ltb}
use Rattle.terms.specs.Entry.{Entry}
use Rattle.marks.specs.Marks.{bit_of}
use Rattle.terms.specs.Counting.{Each}
use Rattle.convergence.specs.Settling.{two_round_rule}
use Rattle.convergence.specs.Trust.{Given, trusted}
use Rattle.terms.specs.Positions.{rounding}
use Rattle.convergence.proofs.Same.{trusted_same}
use Rattle.frame_spec.specs.Said.{said}
use Rattle.settle_midpoint.specs.Answers.{settling}
use Rattle.settle_midpoint.specs.Settled.{Settled}
use Rattle.settle_midpoint.proofs.Middle.{settling_same}
use Rattle.ring_play.specs.Inner.Codes.{entry_of}
use Rattle.head_spec.specs.Record.{given_of}
use Rattle.ring_play.specs.declared.Stage.{Stage}
use Rattle.ring_play.specs.Memory.{heads, SamePlanted, position_of}
use Rattle.ring_play.specs.Inner.Planted.{given_or_planted, position_settled}
use Rattle.ring_play.specs.Inner.Told.{settled_by, settled_at, EarlierOf}

pub settled_same : (s : Stage) (G G' : ℕ → Given) → Each (heads s) (λ k. G k ≡ G' k) → position_settled s G ≡ position_settled s G'
unfolding position_settled
settled_same s G G' h =
    ap position_of (settling_same (rounding s.phase) (heads s) (two_round_rule s.f) _ _ (λ j l. trusted_same (heads s) s.f G G' j l h))

-- from the trusted entries
pub settled_entries : (s : Stage) (E E' : ℕ → Entry) → Each (heads s) (λ j. E j ≡ E' j) → settled_by s E ≡ settled_by s E'
unfolding settled_by
settled_entries s E E' h = ap position_of (settling_same (rounding s.phase) (heads s) (two_round_rule s.f) E E' h)

pub settled_trusted : (s : Stage) (G : ℕ → Given) (E : ℕ → Entry) → Each (heads s) (λ j. E j ≡ trusted (heads s) s.f G j) → settled_by s E ≡ position_settled s G
unfolding settled_by position_settled
settled_trusted s G E h = ap position_of (settling_same (rounding s.phase) (heads s) (two_round_rule s.f) E _ h)

pub codes_alike : (s : Stage) (a b : List ℤ) → Each (heads s) (λ j. get_or a j (pos 0) ≡ get_or b j (pos 0)) → settled_at s a ≡ settled_at s b
codes_alike s a b h = settled_entries s _ _ (λ j l. ap entry_of (h j l))

-- what was settled earlier
pub earlier_at : (s : Stage) (codes : List ℤ) {x : Option ℤ} {p : ℤ} → x ≡ Some p → EarlierOf s x codes → p ≡ settled_at s codes
earlier_at s codes e h = rw e at h

-- receivers told alike settle the same
pub told_settled : (s : Stage) (G : ℕ → Given) (plant : ℕ → ℕ → List ℕ) (i m : ℕ) → SamePlanted s plant i m
    → position_settled s (given_or_planted s G plant m) ≡ position_settled s (given_or_planted s G plant i)
unfolding given_or_planted
told_settled s G plant i m h = settled_same s _ _ go
  where
    go : (k : ℕ) → k < heads s → given_or_planted s G plant m k ≡ given_or_planted s G plant i k
    go k l = rw (lt-ltb k (heads s) l) (pick (bit_of s.struck k) (h k l))
      where
        pick : (b : Bool) → (b ≡ true → plant k i ≡ plant k m)
            → cond b (given_of (said (heads s) s.phase 1 k (plant k m))) (G k) ≡ cond b (given_of (said (heads s) s.phase 1 k (plant k i))) (G k)
        pick true e = rw (e refl)
        pick false e = refl

-- x: what settling answered, from the entries E of n heads, rounded by r
pub at_entries : (s : Stage) (E : ℕ → Entry) {n r : ℕ} {x : Settled} → n ≡ heads s → r ≡ rounding s.phase → x ≡ settling r n (two_round_rule s.f) E
    → position_of x ≡ settled_by s E
unfolding settled_by
at_entries s E p r e = ap position_of e ∙ rw (p, r)
