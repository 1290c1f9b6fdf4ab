-- Demand 3, with receivers that do not adopt (document 02, A8). A late ring is a plain ring in which the late heads are struck, and what is planted from
-- them is what they say (`as_round`). A late receiver's record differs, and nobody reads it: the next round restarts it, and at a phase end it counts as
-- struck. So both rings agree on all receivers that are not in the mark word of the round before (`late_same`), and on what demand 3 looks at (`ends_same`).
use mathlib.Core.Path.{◌≡◌, refl, ap, sym, ◌∙◌}
use mathlib.Core.Bool.{Bool, true, false, not, cond, ◌&&◌, true≢false}
use mathlib.Core.List.{List, [], ◌∷◌}
use Prim.Native.Nat.{ℕ, zero, suc, ◌+◌, ◌≤◌, ◌<◌}
use native.Mathlib.Omega.{arith}
use borrow.Author.Tests.{eqb-true, eqb-false, eq-eqb}
use lib.Dec.{eqb}
use lib.ListN.{length, get_or}
use lib.IntN.{ℤ}
use Rattle.terms.specs.declared.Family.{Family}
use Rattle.terms.specs.declared.Family.TheVariants.{TwoRounds, OneRound}
use Rattle.terms.specs.Sizes.{ends_with}
use Rattle.marks.specs.Marks.{bit_of}
use Rattle.terms.specs.Counting.{Each}
use Rattle.convergence.proofs.Same.{SameEnd, demand3_same}
use Rattle.head_spec.specs.Calls.{hear_all, frame_for}
use Rattle.head_spec.specs.declared.Head.{Head}
use Rattle.ring_spec.specs.Rounds.{Plant, Round, planted, Ring, opened_at, carried, closed_at, after_round, ring_after}
use Rattle.ring_spec.specs.Rounds.{PhaseEnd, phase_end, receivers, as_end, with_end, ends_after}
use Rattle.ring_spec.specs.Converges.{FewStruckIn, no_end, RingWithin}
use Rattle.ring_spec.specs.Late.{LateRound, late_rounds, opened_late, carried_late, closed_late, after_late, ring_after_late, ends_after_late, LateConverges}
use Rattle.ring_spec.proofs.Receivers.{hears}
use Rattle.ring_spec.proofs.HeadsAlone.{links_same}
use Rattle.ring_spec.proofs.Demand3.{ring_converges}

-- ---- what late heads say, planted

-- bytes s from head k to receivers 0 .. m - 1, before what else is planted
abbrev sent_to : ℕ → List ℕ → ℕ → List Plant → List Plant
sent_to k s zero ps = ps
sent_to k s (suc i) ps = record { from = k; to = i; bytes = s } ∷ sent_to k s i ps

sent_reaches : (k : ℕ) (s : List ℕ) (m : ℕ) (ps : List Plant) (i : ℕ) → i < m → planted (sent_to k s m ps) k i ≡ s
sent_reaches k s zero ps i l = absurd (omega arith)
sent_reaches k s (suc m) ps i l = rw (eq-eqb k k refl) (go (eqb m i) refl (sent_reaches k s m ps i))
  where
    go : (b : Bool) → eqb m i ≡ b → (i < m → planted (sent_to k s m ps) k i ≡ s) → cond b s (planted (sent_to k s m ps) k i) ≡ s
    go true e ih = refl
    go false e ih = let d : m ≡ i → ⊥ = eqb-false m i e in ih (omega arith)

sent_other : (k : ℕ) (s : List ℕ) (m : ℕ) (ps : List Plant) (j i : ℕ) → eqb k j ≡ false → planted (sent_to k s m ps) j i ≡ planted ps j i
sent_other k s zero ps j i e = refl
sent_other k s (suc m) ps j i e = rw e (sent_other k s m ps j i e)

-- the frames of the late ones of heads 0 .. m - 1 to every receiver
module _ (is_late : ℕ → Bool) (frame : ℕ → List ℕ) (ps : List Plant) where
  abbrev sent_late : ℕ → List Plant
  sent_late zero = ps
  sent_late (suc k) = cond (is_late k) (sent_to k (frame k) receivers (sent_late k)) (sent_late k)

  late_reaches : (m k i : ℕ) → k < m → i < receivers → is_late k ≡ true → planted (sent_late m) k i ≡ frame k
  late_reaches zero k i l t q = absurd (omega arith)
  late_reaches (suc m) k i l t q = go (eqb m k) refl (late_reaches m k i)
    where
      -- of another head
      other : (b : Bool) → eqb m k ≡ false → planted (sent_late m) k i ≡ frame k
          → planted (cond b (sent_to m (frame m) receivers (sent_late m)) (sent_late m)) k i ≡ frame k
      other true e h = sent_other m (frame m) receivers (sent_late m) k i e ∙ h
      other false e h = h

      go : (b : Bool) → eqb m k ≡ b → (k < m → i < receivers → is_late k ≡ true → planted (sent_late m) k i ≡ frame k)
          → planted (cond (is_late m) (sent_to m (frame m) receivers (sent_late m)) (sent_late m)) k i ≡ frame k
      go true e ih = rw (eqb-true m k e, q) (sent_reaches k (frame k) receivers (sent_late k) i t)
      go false e ih = let d : m ≡ k → ⊥ = eqb-false m k e in other (is_late m) e (ih (omega arith) t q)

  -- from the others comes what was planted
  others_keep : (m k i : ℕ) → is_late k ≡ false → planted (sent_late m) k i ≡ planted ps k i
  others_keep zero k i q = refl
  others_keep (suc m) k i q = go (is_late m) refl ∙ others_keep m k i q
    where
      go : (b : Bool) → is_late m ≡ b → planted (cond b (sent_to m (frame m) receivers (sent_late m)) (sent_late m)) k i ≡ planted (sent_late m) k i
      go false e = refl
      go true e = sent_other m (frame m) receivers (sent_late m) k i (apart (eqb m k) refl)
        where
          apart : (b : Bool) → eqb m k ≡ b → eqb m k ≡ false
          apart true h = absurd (true≢false (sym e ∙ ap is_late (eqb-true m k h) ∙ q))
          apart false h = h

-- ---- one round

-- the plain round of a late one, in the late ring R: the late heads are struck, and from them is planted what they say
module _ (K : Family) (n f : ℕ) (R : Ring) (w : LateRound) where
  abbrev is_late : ℕ → Bool
  is_late k = bit_of w.round.struck k && w.late k

  abbrev frame : ℕ → List ℕ
  frame k = frame_for (opened_late K n f R w k)

  unfoldable as_round : Round
  as_round = record { struck = w.round.struck; amended = w.round.amended; plants = sent_late is_late frame w.round.plants n }

-- two rings with the same records, but for those that the next round restarts
record SameSound (R R' : Ring) : Type 0 where
  phase : R.phase ≡ R'.phase
  round : R.round ≡ R'.round
  before : R.before ≡ R'.before
  heads : Each receivers (λ i. bit_of R.before i ≡ false → R.heads i ≡ R'.heads i)

module _ (K : Family) (n f : ℕ) (most : n ≤ 32) (R R' : Ring) (w : LateRound) (S : SameSound R R') where
  abbrev counted : ℕ → Bool
  counted i = bit_of w.round.struck i

  abbrev w' : Round
  w' = as_round K n f R w

  opened_late_lem : Each receivers (λ i. counted i ≡ false → opened_late K n f R w i ≡ opened_at K n f R' w' i)
  unfolding opened_late opened_at as_round
  opened_late_lem i l q = rw (q, ← S.before, ← S.phase, ← S.round) (go _ (bit_of R.before i) (S.heads i l))
    where
      go : (h : Head) (b : Bool) → (b ≡ false → R.heads i ≡ R'.heads i) → cond b h (R.heads i) ≡ cond b h (R'.heads i)
      go h true same = refl
      go h false same = same refl

  carried_late_lem : Each receivers (λ i. Each n (λ k. carried_late K n f R w i k ≡ carried K n f R' w' i k))
  unfolding carried_late carried as_round
  carried_late_lem i l k t = go (counted k) (w.late k) refl refl
    where
      P : List Plant
      P = sent_late (is_late K n f R w) (frame K n f R w) w.round.plants n

      go : (c d : Bool) → counted k ≡ c → w.late k ≡ d
          → cond (c && not d) (planted w.round.plants k i) (frame_for (opened_late K n f R w k)) ≡ cond c (planted P k i) (frame_for (opened_at K n f R' w' k))
      go false d p q = ap frame_for (opened_late_lem k (omega arith) p)
      go true true p q = sym (late_reaches (is_late K n f R w) (frame K n f R w) w.round.plants n k i t l (rw (p, q)))
      go true false p q = sym (others_keep (is_late K n f R w) (frame K n f R w) w.round.plants n k i (rw (p, q)))

  closed_late_lem : Each receivers (λ i. counted i ≡ false → closed_late K n f R w i ≡ closed_at K n f R' w' i)
  unfolding closed_late closed_at hear_all as_round
  closed_late_lem i l q =
      rw (q, opened_late_lem i l q, links_same (carried_late K n f R w i) (carried K n f R' w' i) n 0 (λ k t. carried_late_lem i l k (omega arith)))

  next_late : SameSound (after_late K n f R w) (after_round K n f R' w')
  unfolding after_late after_round as_round
  next_late = record { phase = rw (S.round, S.phase); round = rw S.round; before = refl; heads = closed_late_lem }

-- ---- the ends

-- two lists of ends that agree on what demand 3 looks at
record SameEnds (n m : ℕ) (es es' : List PhaseEnd) : Type 0 where
  many : length es ≡ length es'
  each : (i : ℕ) → SameEnd receivers (as_end n m (get_or es i no_end)) (as_end n m (get_or es' i no_end))

same_with : (n m : ℕ) (r : Bool) (e e' : PhaseEnd) (es es' : List PhaseEnd) → SameEnd receivers (as_end n m e) (as_end n m e') → SameEnds n m es es'
    → SameEnds n m (with_end r e es) (with_end r e' es')
same_with n m false e e' es es' s S = S
same_with n m true e e' es es' s S = record { many = ap suc S.many; each = go }
  where
    go : (i : ℕ) → SameEnd receivers (as_end n m (get_or (e ∷ es) i no_end)) (as_end n m (get_or (e' ∷ es') i no_end))
    go zero = s
    go (suc i) = S.each i

-- ---- a run

many_rounds : (ws : List LateRound) → length (late_rounds ws) ≡ length ws
unfolding late_rounds
many_rounds [] = refl
many_rounds (w ∷ ws) = ap suc (many_rounds ws)

module _ (K : Family) (n f : ℕ) (v : ℕ → ℤ) where
  abbrev as_rounds : List LateRound → List Round
  as_rounds [] = []
  as_rounds (w ∷ ws) = as_round K n f (ring_after_late K n f v ws) w ∷ as_rounds ws

  as_many : (ws : List LateRound) → length (as_rounds ws) ≡ length ws
  as_many [] = refl
  as_many (w ∷ ws) = ap suc (as_many ws)

  -- the same are counted as struck
  few_late : (ws : List LateRound) → FewStruckIn n f (late_rounds ws) → FewStruckIn n f (as_rounds ws)
  unfolding late_rounds as_round
  few_late [] W = W
  few_late (w ∷ ws) W = (W.0, few_late ws W.1)

  module _ (most : n ≤ 32) where
    late_same : (ws : List LateRound) → SameSound (ring_after_late K n f v ws) (ring_after K n f v (as_rounds ws))
    unfolding ring_after_late ring_after
    late_same [] = record { phase = refl; round = refl; before = refl; heads = λ i l q. refl }
    late_same (w ∷ ws) = next_late K n f most (ring_after_late K n f v ws) (ring_after K n f v (as_rounds ws)) w (late_same ws)

    -- two phase ends with the same marks, and the same records but for those marked
    ends_alike : (k : Family) (m marks a b : ℕ) {H H' : ℕ → Head} → Each receivers (λ i. bit_of marks i ≡ false → H i ≡ H' i)
        → SameEnd receivers (as_end n m (phase_end k a marks H)) (as_end n m (phase_end k b marks H'))
    ends_alike TwoRounds m marks a b same =
        record { struck = λ i l. refl; at = λ i l q. ap (λ (h : Head). h.seat.position) (same i l (hears n m marks i l q).1) }
    ends_alike OneRound m marks a b same =
        record { struck = λ i l. refl; at = λ i l q. ap (λ (h : Head). h.seat.position) (same i l (hears n m marks i l q).1) }

    -- a phase end: the same are counted as struck, and the others hold the same
    end_same : (m : ℕ) (w : LateRound) (ws : List LateRound) → let us = w ∷ ws in
        (a b : ℕ) → SameEnd receivers (as_end n m (phase_end K a w.round.struck (ring_after_late K n f v us).heads))
        (as_end n m (phase_end K b (as_round K n f (ring_after_late K n f v ws) w).struck (ring_after K n f v (as_rounds us)).heads))
    unfolding as_round ring_after_late after_late
    end_same m w ws a b =
        ends_alike K m w.round.struck a b (λ i l q. (late_same (w ∷ ws)).heads i l q)

    ends_same : (m : ℕ) (ws : List LateRound) → SameEnds n m (ends_after_late K n f v ws) (ends_after K n f v (as_rounds ws))
    unfolding ends_after_late ends_after
    ends_same m [] = record { many = refl; each = λ i. record { struck = λ j l. refl; at = λ j l q. refl } }
    ends_same m (w ∷ ws) =
        rw (← (late_same ws).round)
        (same_with n m (ends_with K (ring_after_late K n f v ws).round) _ _ _ _ (end_same m w ws _ _) (ends_same m ws))

-- what the plain ring gives
late_within : {K : Family} {n m f : ℕ} {v : ℕ → ℤ} (ws : List LateRound) → RingWithin K n m f v (late_rounds ws) → RingWithin K n m f v (as_rounds K n f v ws)
late_within {K} {n} {m} {f} {v} ws X =
    let y = as_many K n f v ws in
    let z = many_rounds ws in
    record {
      most = X.most;
      listeners = X.listeners;
      size = X.size;
      range = X.range;
      few = few_late K n f v ws X.few;
      rounds = omega (arith, X.rounds);
    }

pub late_converges : LateConverges
late_converges K n m f v ws X i k h =
    let S = ends_same K n f v X.most m ws in
    let z = S.many in
    demand3_same (S.each (i + k)) (S.each i) (ring_converges K n m f v (as_rounds K n f v ws) (late_within ws X) i k (omega arith))
