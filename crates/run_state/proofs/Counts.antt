-- The counts, place by place, and that a round keeps them: it makes of the counts after the rounds before it those after it.
use mathlib.Core.Path.{◌≡◌, refl, sym, ◌∙◌}
use mathlib.Core.Bool.{Bool, true, false, cond}
use mathlib.Core.List.{List, [], ◌∷◌}
use Prim.Native.Nat.{ℕ, zero, suc, ◌+◌, ◌/◌, ◌^◌, ◌≤◌, ◌<◌, min}
use native.Mathlib.Omega.{arith}
use native.Mathlib.Decide.{dec_lt, le_ind}
use lib.ListN.{length, get_or, set, replicate, length-set, get_or-replicate}
use lib.Seq.{get_or-set_same, get_or-set_other}
use borrow.Author.Tests.{eq-eqb, ltb-true}
use Rattle.terms.specs.declared.Family.{Family}
use Rattle.marks.specs.Marks.{bit_of}
use Rattle.marks.proofs.Marks.{bit_above, shift_none}
use Rattle.terms.specs.Counting.{bit}
use Rattle.head_spec.specs.Seats.{most_counted}
use Rattle.ring_spec.specs.Rounds.{Round, receivers, ends_phase, ends_since}
use Rattle.run_state.specs.Counts.{CountsOf, aged, cleared, counts_then}

-- ---- a phase end more

pub aged_long : (k : ℕ) (l : List ℕ) → length (aged k l) ≡ length l
unfolding aged
aged_long zero l = refl
aged_long (suc j) l = length-set (aged j l) j _ ∙ aged_long j l

-- those from k on stay
pub aged_past : (k : ℕ) (l : List ℕ) (i : ℕ) → k ≤ i → get_or (aged k l) i 0 ≡ get_or l i 0
unfolding aged
aged_past zero l i past = refl
aged_past (suc j) l i past = get_or-set_other (aged j l) j i _ 0 (omega arith) ∙ aged_past j l i (omega arith)

aged_at : (k : ℕ) (l : List ℕ) (i : ℕ) → k ≤ length l → i < k → get_or (aged k l) i 0 ≡ min most_counted (get_or l i 0 + 1)
unfolding aged
aged_at zero l i room below = absurd (omega arith)
aged_at (suc j) l i room below = go (aged_at j l i (omega arith)) (dec_lt i j)
  where
    go : (i < j → get_or (aged j l) i 0 ≡ min most_counted (get_or l i 0 + 1)) → Dec (i < j) → get_or (aged (suc j) l) i 0 ≡ min most_counted (get_or l i 0 + 1)
    go ih (yes d) = get_or-set_other (aged j l) j i _ 0 (omega arith) ∙ ih d
    go ih (no d) = let q : i ≡ j = omega arith in rw q (get_or-set_same (aged j l) j _ 0 (omega (arith, aged_long j l)))

-- ---- those that are marked begin anew

pub cleared_long : (k marks : ℕ) (l : List ℕ) → length (cleared k marks l) ≡ length l
unfolding cleared
cleared_long zero marks l = refl
cleared_long (suc j) marks l = go (cleared_long j marks l) (bit_of marks j)
  where
    go : length (cleared j marks l) ≡ length l → (b : Bool) → length (cond b (set (cleared j marks l) j 0) (cleared j marks l)) ≡ length l
    go ih true = length-set (cleared j marks l) j 0 ∙ ih
    go ih false = ih

-- those from k on stay
cleared_past : (k marks : ℕ) (l : List ℕ) (i : ℕ) → k ≤ i → get_or (cleared k marks l) i 0 ≡ get_or l i 0
unfolding cleared
cleared_past zero marks l i past = refl
cleared_past (suc j) marks l i past = go (cleared_past j marks l i (omega arith)) (bit_of marks j)
  where
    go : get_or (cleared j marks l) i 0 ≡ get_or l i 0 → (b : Bool) → get_or (cond b (set (cleared j marks l) j 0) (cleared j marks l)) i 0 ≡ get_or l i 0
    go ih true = get_or-set_other (cleared j marks l) j i 0 0 (omega arith) ∙ ih
    go ih false = ih

cleared_at : (k marks : ℕ) (l : List ℕ) (i : ℕ) → k ≤ length l → i < k → get_or (cleared k marks l) i 0 ≡ cond (bit_of marks i) 0 (get_or l i 0)
unfolding cleared
cleared_at zero marks l i room below = absurd (omega arith)
cleared_at (suc j) marks l i room below = go (cleared_at j marks l i (omega arith)) (dec_lt i j) (bit_of marks j) refl
  where
    go : (i < j → get_or (cleared j marks l) i 0 ≡ cond (bit_of marks i) 0 (get_or l i 0)) → Dec (i < j) → (b : Bool) → bit_of marks j ≡ b
        → get_or (cond b (set (cleared j marks l) j 0) (cleared j marks l)) i 0 ≡ cond (bit_of marks i) 0 (get_or l i 0)
    go ih (yes d) true e = get_or-set_other (cleared j marks l) j i 0 0 (omega arith) ∙ ih d
    go ih (yes d) false e = ih d
    go ih (no d) true e =
        let q : i ≡ j = omega arith in
        rw (q, e) (get_or-set_same (cleared j marks l) j 0 0 (omega (arith, cleared_long j marks l)))
    go ih (no d) false e = let q : i ≡ j = omega arith in rw (q, e) (cleared_past j marks l j (omega arith))

-- from the last mark on there is nothing to do
pub cleared_rest : (k marks : ℕ) (l : List ℕ) → marks / 2 ^ k ≡ 0 → (j : ℕ) → k ≤ j → cleared j marks l ≡ cleared k marks l
unfolding cleared
cleared_rest k marks l none =
    le_ind (λ j. cleared j marks l ≡ cleared k marks l) refl (λ j past e. rw (bit_above marks k j small past) e)
  where
    small : marks < 2 ^ k
    small = ltb-true marks (2 ^ k) (sym (shift_none marks k) ∙ eq-eqb (marks / 2 ^ k) 0 none)

-- ---- a round

pub none_counted : (K : Family) → CountsOf K [] (replicate receivers 0)
unfolding ends_since
none_counted K = record { long = refl; counts = λ i l. get_or-replicate receivers i 0 0 l }

pub round_counted : (K : Family) (ws : List Round) (w : Round) (l : List ℕ) → CountsOf K ws l
    → CountsOf K (w ∷ ws) (counts_then (ends_phase K (length (w ∷ ws))) w.struck l)
unfolding ends_since
round_counted K ws w l C = go (ends_phase K (length (w ∷ ws))) refl
  where
    go : (b : Bool) → ends_phase K (length (w ∷ ws)) ≡ b → CountsOf K (w ∷ ws) (counts_then b w.struck l)
    go b e =
        record {
          long = cleared_long receivers w.struck (older b) ∙ older_long b;
          counts =
              λ i m.
              cleared_at receivers w.struck (older b) i (omega (arith, older_long b)) m
              ∙ rw e (at_end (bit_of w.struck i) b i m);
        }
      where
        older : Bool → List ℕ
        older b = cond b (aged receivers l) l

        older_long : (b : Bool) → length (older b) ≡ receivers
        older_long true = aged_long receivers l ∙ C.long
        older_long false = C.long

        at_end : (struck b : Bool) (i : ℕ) → i < receivers
            → cond struck 0 (get_or (older b) i 0) ≡ min most_counted (cond struck 0 (ends_since K i ws + bit b))
        at_end true b i m = refl
        at_end false true i m = aged_at receivers l i (omega (arith, C.long)) m ∙ omega (arith, C.counts i m)
        at_end false false i m = omega (arith, C.counts i m)
