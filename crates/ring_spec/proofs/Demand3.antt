-- Demand 3 of a ring of records and frames. After any rounds within the limits the next round can be played (`playable`). So at each phase end the ring of
-- records agrees on the sound heads and listeners with the ring of messages, for the faults that its rounds amount to (`refines`). Any two ends of messages are as
-- `converges` says, and so are any two of records (`ring_converges`).
use Rattle.std.specs.Prelude.{None, Some}
use mathlib.Core.Path.{◌≡◌, refl, ap, sym, ◌∙◌}
use mathlib.Core.Bool.{Bool, true, false, not, true≢false}
use mathlib.Core.Logic.{inl, inr}
use mathlib.Core.List.{List, [], ◌∷◌}
use Prim.Native.Nat.{ℕ, zero, suc, ◌+◌, ◌-◌, ◌*◌, ◌≤◌, ◌<◌}
use native.Mathlib.Omega.{arith}
use native.Mathlib.Nat.{le_of_suc-le-suc}
use borrow.Author.Tests.{ltb-true, lt-ltb, le-ltb}
use lib.Dec.{ltb}
use lib.ListN.{length, get_or, drop, length-drop, drop_of_length-le}
use lib.Seq.{drop-cons}
use lib.IntN.{ℤ}
use Rattle.terms.specs.Positions.{is_position}
use Rattle.terms.specs.declared.Family.{Family}
use Rattle.terms.specs.declared.Family.TheVariants.{TwoRounds, OneRound}
use Rattle.terms.specs.Sizes.{rounds_of, ends_with}
use Rattle.marks.specs.Marks.{bit_of}
use Rattle.marks.proofs.Marks.{bit_none}
use Rattle.terms.specs.Counting.{Each, bit, AtMost}
use Rattle.convergence.specs.Settling.{rule_of, enough}
use Rattle.convergence.specs.Phases.{End, Faults, lowest, highest, start_end, after, end_after}
use Rattle.convergence.specs.Demand3.{FewStruck}
use Rattle.terms.proofs.Sums.{sum_same, sum_none}
use Rattle.convergence.proofs.Same.{SameEnd, same_bounds, demand3_same}
use Rattle.convergence.proofs.Demand3.{size_large, few_struck, kept_between_in_ring, converges}
use Rattle.convergence.proofs.Quiet.{quiet_agrees}
use Rattle.head_spec.specs.Kept.{LastKept}
use Rattle.head_spec.specs.Record.{entries_by}
use Rattle.head_spec.specs.Calls.{started, started_listener}
use Rattle.head_spec.proofs.Proper.{Sized, first_round, start_accepted, start_listener_accepted}
use Rattle.head_spec.proofs.Hearing.{fresh_started, fresh_started_listener}
use Rattle.ring_spec.specs.Rounds.{Round, Ring, most_rounds, round_then, after_round, PhaseEnd, phase_end, receivers, is_out, as_end, all_listeners, with_end, first_heads, ring_after, ends_after}
use Rattle.ring_spec.specs.Converges.{FewStruckIn, no_end, RingWithin, RingConverges, HoldsBetween, RingKeepsBetween, RingQuiet}
use Rattle.ring_spec.proofs.Receivers.{Hears, listener_large, head_out, few_out, hears, head_first, first_out}
use Rattle.ring_spec.proofs.OneRound.{Ready, RingReady, heard_at}
use Rattle.ring_spec.proofs.Closings.{after_confession, collection_next, confession_next}
use Rattle.ring_spec.proofs.OnePhase.{faults_in, faults_in_one, end_at, marked_end, calm, keeps_as, phase_same, calm_one, keeps_one, round_same}
use Rattle.ring_spec.proofs.Counts.{counted, phase_more}

-- ---- the faults of a run

-- a round that strikes no head
abbrev pub no_round : Round
no_round = record { struck = 0; amended = false; plants = [] }

-- round j of a run, counted from 1, if there is one
abbrev pub round_at : List Round → ℕ → Round
round_at ws j = get_or ws (length ws - j) no_round

-- the faults of phase p of a run: what is planted in its rounds
unfoldable pub faults_of : Family → ℕ → ℕ → List Round → ℕ → Faults
faults_of TwoRounds n m ws p = faults_in n m p (round_at ws (2 * p - 1)) (round_at ws (2 * p))
faults_of OneRound n m ws p = faults_in_one n m p (round_at ws p)

pub no_head : (n f : ℕ) → AtMost f n (λ j. false)
no_head n f = omega (arith, sum_none n)

pub none_struck : (n f : ℕ) → AtMost f n (bit_of 0)
none_struck n f = simp bit_none (omega (arith, sum_none n))

pub few_in : (n f j : ℕ) (ws : List Round) → FewStruckIn n f ws → AtMost f n (bit_of (get_or ws j no_round).struck)
few_in n f j [] W = none_struck n f
few_in n f zero (w ∷ ws) W = W.0
few_in n f (suc j) (w ∷ ws) W = few_in n f j ws W.1

-- which listeners a round strikes makes no difference to the limit
pub listeners_free : (n f : ℕ) (w w' : Round) (ws : List Round) → Each n (λ j. bit_of w'.struck j ≡ bit_of w.struck j) → FewStruckIn n f (w ∷ ws)
    → FewStruckIn n f (w' ∷ ws)
listeners_free n f w w' ws same W =
    (omega (arith, W.0, sum_same n (λ j. bit (bit_of w'.struck j)) (λ j. bit (bit_of w.struck j)) (λ j l. ap bit (same j l))), W.1)

pub few_earlier : (n f j : ℕ) (ws : List Round) → FewStruckIn n f ws → FewStruckIn n f (drop j ws)
few_earlier n f zero ws W = W
few_earlier n f (suc j) [] W = W
few_earlier n f (suc j) (w ∷ ws) W = few_earlier n f j ws W.1

pub few_faults : (K : Family) (n m f : ℕ) (ws : List Round) → FewStruckIn n f ws → FewStruck n f (faults_of K n m ws)
unfolding faults_of faults_in faults_in_one
few_faults TwoRounds n m f ws W p = (few_in n f _ ws W, few_out n m _ f (few_in n f _ ws W))
few_faults OneRound n m f ws W p = (no_head n f, few_out n m _ f (few_in n f _ ws W))

-- ---- the next round can be played

-- the ring is ready, and in the last round of a phase no closing is refused, whoever is struck in it
pub record Playable (K : Family) (n f : ℕ) (R : Ring) : Type 0 where
  pub ready : RingReady K n f R
  pub settles : ends_with K R.round ≡ true → (w : Round) → AtMost f n (bit_of w.struck)
      → (i : ℕ) → Hears n i → bit_of w.struck i ≡ false → enough n (rule_of K f) (entries_by K (heard_at K n f R w i)) ≡ true

abbrev itself : (n : ℕ) (R : Ring) → SameEnd n (end_at R) (end_at R)
itself n R = record { struck = λ i l. refl; at = λ i l q. refl }

-- a ring of one round that is ready is playable
pub single_playable : (n f : ℕ) (R : Ring) → RingReady OneRound n f R → AtMost f n (bit_of R.before) → Playable OneRound n f R
single_playable n f R S few_before =
    record {
      ready = S;
      settles = λ c w few. calm_one n 0 f R w S (omega (arith, S.round)) (end_at R) (itself n R) few_before few (no_head n f);
    }

-- and one of two rounds in its collection round
pub first_playable : (n f : ℕ) (R : Ring) → RingReady TwoRounds n f R → R.round ≡ 0 → Playable TwoRounds n f R
first_playable n f R S c = record { ready = S; settles = λ d. absurd (true≢false (sym d ∙ ap (ends_with TwoRounds) c)) }

pub playable_next : (K : Family) (n f : ℕ) (R : Ring) (w : Round) → Playable K n f R → AtMost f n (bit_of R.before) → AtMost f n (bit_of w.struck)
    → (ends_with K R.round ≡ true → R.phase < 65535) → Playable K n f (after_round K n f R w)
unfolding after_round
playable_next OneRound n f R w P few_before few more =
    single_playable n f (after_round OneRound n f R w) (confession_next OneRound n f R w P.ready refl (P.settles refl w few) (more refl)) few
playable_next TwoRounds n f R w P few_before few more = go R.round refl
  where
    S : RingReady TwoRounds n f R
    S = P.ready

    go : (r : ℕ) → R.round ≡ r → Playable TwoRounds n f (after_round TwoRounds n f R w)
    go zero c =
        record {
          ready = collection_next TwoRounds n f R w S (ap (ends_with TwoRounds) c);
          settles = λ d b few-b. calm n 0 f R w b S c (end_at R) (itself n R) few_before few few-b;
        }
    go (suc r) c =
        let now : ends_with TwoRounds R.round ≡ true = ap (ends_with TwoRounds) c in
        first_playable n f (after_round TwoRounds n f R w) (confession_next TwoRounds n f R w S now (P.settles now w few) (more now))
        (after_confession TwoRounds n f R w S now).1

-- the marks that a phase end shows after the rounds ws: those of the last, and at the start those of all listeners
abbrev pub marks_at : List Round → ℕ
marks_at [] = all_listeners
marks_at (w ∷ ws) = w.struck

-- a phase end shows these marks, and the records of a ring
pub record IsEnd (e : PhaseEnd) (marks : ℕ) (R : Ring) : Type 0 where
  pub struck : e.struck ≡ marks
  pub heads : e.heads ≡ R.heads

is_end : (K : Family) (before marks : ℕ) (R : Ring) → IsEnd (phase_end K before marks R.heads) marks R
is_end TwoRounds before marks R = record { struck = refl; heads = refl }
is_end OneRound before marks R = record { struck = refl; heads = refl }

module _ (K : Family) (n f : ℕ) (v : ℕ → ℤ) (S : Sized K n f) (range : Each n (λ i. is_position (v i) ≡ true)) where
  abbrev R : List Round → Ring
  R = ring_after K n f v

  abbrev E : List Round → List PhaseEnd
  E = ends_after K n f v

  few_before : (ws : List Round) → FewStruckIn n f ws → AtMost f n (bit_of (R ws).before)
  unfolding ring_after after_round
  few_before [] W = none_struck n f
  few_before (w ∷ ws) W = W.0

  -- a head starts with its position, a listener without one
  started_ready : (i : ℕ) → Hears n i → Ready K n f i 1 0 false (first_heads K n f v i)
  unfolding first_heads started started_listener
  started_ready i (inl l) =
      rw (lt-ltb i 32 (omega (arith, S.most)))
      (record {
        fresh = fresh_started K n f i (v i) (start_accepted K n f i S l (v i) (range i l));
        seat = record { family = refl; count = refl; limit = refl; number = refl; phase = refl; round = refl; healed = refl; runs = refl };
      })
  started_ready i (inr e) =
      rw (le-ltb i 32 (listener_large i e))
      (record {
        fresh = fresh_started_listener K n f i (start_listener_accepted K n f i S e);
        seat = record { family = refl; count = refl; limit = refl; number = refl; phase = refl; round = refl; healed = refl; runs = refl };
      })

  pub started_ring : RingReady K n f (R [])
  unfolding ring_after
  started_ring =
      record { size = S; from_first = omega arith; to_last = omega arith; round = first_round K; heads = λ i l q. started_ready i l }

  pub playable : (ws : List Round) → FewStruckIn n f ws → length ws < most_rounds K → Playable K n f (R ws)
  unfolding ring_after
  playable [] W l = go K refl
    where
      go : (k : Family) → K ≡ k → Playable K n f (R [])
      go TwoRounds q = let z = started_ring in rw q (first_playable n f _ (rw q at z) refl)
      go OneRound q = let z = started_ring in rw q (single_playable n f _ (rw q at z) (none_struck n f))
  playable (w ∷ ws) W l =
      playable_next K n f (R ws) w (playable ws W.1 (omega arith)) (few_before ws W.1) W.0 (λ c. phase_more K (counted K n f v ws) c l)

  module _ (m : ℕ) where
    -- the end after the rounds ws
    abbrev ended : List Round → End
    ended ws = as_end n m (marked_end (marks_at ws) (R ws).heads)

    -- its heads are those of the ring that the next round finds
    before_same : (ws : List Round) → Each n (λ i. bit_of (R ws).before i ≡ is_out n m (marks_at ws) i)
    unfolding ring_after after_round
    before_same [] i l = bit_none i ∙ sym (head_first i (omega (arith, S.most))) ∙ sym (head_out n m all_listeners i l)
    before_same (w ∷ ws) i l = sym (head_out n m w.struck i l)

    heads_same : (ws : List Round) {e : End} → SameEnd receivers (ended ws) e → SameEnd n (end_at (R ws)) e
    heads_same ws s =
        record {
          struck = λ i l. before_same ws i l ∙ s.struck i (omega (arith, S.most));
          at = λ i l q. s.at i (omega (arith, S.most)) (sym (before_same ws i l) ∙ q);
        }

    start_same : SameEnd receivers (ended []) (start_end n v)
    unfolding ring_after first_heads started start_end
    start_same =
        record {
          struck = λ i l. first_out n m i S.most l;
          at = λ i l q. sent i (go (ltb i n) refl (sym (first_out n m i S.most l) ∙ q));
        }
      where
        go : {i : ℕ} (b : Bool) → ltb i n ≡ b → not b ≡ false → i < n
        go {i} true e q = ltb-true i n e
        go false e q = absurd (true≢false q)

        sent : (i : ℕ) → i < n → (first_heads K n f v i).seat.position ≡ Some (v i)
        sent i l = rw (lt-ltb i 32 (omega (arith, S.most)))

-- ---- the ends

-- how many rounds came after end i, with the latest first, if r rounds of a phase came after the last
abbrev pub back : Family → ℕ → ℕ → ℕ
back TwoRounds i r = 2 * i + r
back OneRound i r = i

-- end e is the one after the rounds ws
abbrev pub EndOf : Family → ℕ → ℕ → (ℕ → ℤ) → PhaseEnd → List Round → Type 0
EndOf K n f v e ws = IsEnd e (marks_at ws) (ring_after K n f v ws)

-- end i, with the latest first: the ring without the rounds after it
pub ends_are : (K : Family) (n f : ℕ) (v : ℕ → ℤ) (ws : List Round) (i : ℕ) → i < length (ends_after K n f v ws)
    → EndOf K n f v (get_or (ends_after K n f v ws) i no_end) (drop (back K i (ring_after K n f v ws).round) ws)
unfolding ring_after ends_after after_round
ends_are TwoRounds n f v [] zero m = record { struck = refl; heads = refl }
ends_are OneRound n f v [] zero m = record { struck = refl; heads = refl }
ends_are K n f v [] (suc i) m = absurd (omega arith)
ends_are OneRound n f v (w ∷ ws) zero m = record { struck = refl; heads = refl }
ends_are OneRound n f v (w ∷ ws) (suc i) m = ends_are OneRound n f v ws i (le_of_suc-le-suc m)
ends_are TwoRounds n f v (w ∷ ws) i m = go (R ws).round (counted TwoRounds n f v ws).small (ends_are TwoRounds n f v ws) i m
  where
    R : List Round → Ring
    R = ring_after TwoRounds n f v

    es : List PhaseEnd
    es = ends_after TwoRounds n f v ws

    end : PhaseEnd
    end = phase_end TwoRounds (ring_after TwoRounds n f v ws).before w.struck (ring_after TwoRounds n f v (w ∷ ws)).heads

    Ends : List PhaseEnd → ℕ → ℕ → List Round → Type 0
    Ends xs i r us = EndOf TwoRounds n f v (get_or xs i no_end) (drop (2 * i + r) us)

    go : (r : ℕ) → r < 2 → ((j : ℕ) → j < length es → Ends es j r ws)
        → (i : ℕ) → i < length (with_end (ends_with TwoRounds r) end es) → Ends (with_end (ends_with TwoRounds r) end es) i (round_then (ends_with TwoRounds r)) (w ∷ ws)
    go zero s ih i m = let z : 2 * i + 1 ≡ suc (2 * i + 0) = omega arith in rw z (ih i m)
    go (suc r) s ih zero m = record { struck = refl; heads = refl }
    go (suc r) s ih (suc i) m = let z : 2 * suc i + 0 ≡ suc (2 * i + suc r) = omega arith in rw z (ih i (le_of_suc-le-suc m))

-- ---- phase by phase

module _ (n f : ℕ) (v : ℕ → ℤ) (range : Each n (λ i. is_position (v i) ≡ true)) (m : ℕ) (ws : List Round) (W : FewStruckIn n f ws) where
  -- the ring after p phases, without the last j rounds
  abbrev Stands : Family → ℕ → ℕ → Type 0
  Stands K p j = SameEnd receivers (as_end n m (marked_end (marks_at (drop j ws)) (ring_after K n f v (drop j ws)).heads)) (end_after K n f v (faults_of K n m ws) p)

  stands : (K : Family) → Sized K n f → length ws ≤ most_rounds K → (p j : ℕ) → length ws ≡ rounds_of K * p + j → Stands K p j
  unfolding end_after faults_of ring_after
  stands K S most zero j e = rw (drop_of_length-le ws {i = j} (omega (arith))) (start_same K n f v S range m)
  stands TwoRounds S most (suc p) j e =
      let R = ring_after TwoRounds n f v in
      let us = drop (suc (suc j)) ws in
      let few = few_earlier n f (suc (suc j)) ws W in
      let C = counted TwoRounds n f v us in
      let d = length-drop (suc (suc j)) ws in
      let c : (R us).round ≡ 0 = omega arith in
      let q : (R us).phase ≡ suc p = omega arith in
      let x : length ws - (2 * suc p - 1) ≡ suc j = omega arith in
      let y : length ws - 2 * suc p ≡ j = omega arith in
      rw (drop-cons ws j no_round (omega arith), drop-cons ws (suc j) no_round (omega arith), x, y, ← q)
      (phase_same n m f (R us) _ _ (playable TwoRounds n f v S range us few (omega arith)).ready c _
      (heads_same TwoRounds n f v S range m us (stands TwoRounds S most p (suc (suc j)) (omega arith)))
      (few_struck TwoRounds n f S.limit v (faults_of TwoRounds n m ws) (few_faults TwoRounds n m f ws W) p) (few_in n f (suc j) ws W) (few_in n f j ws W))
  stands OneRound S most (suc p) j e =
      let R = ring_after OneRound n f v in
      let us = drop (suc j) ws in
      let few = few_earlier n f (suc j) ws W in
      let C = counted OneRound n f v us in
      let d = length-drop (suc j) ws in
      let c : (R us).round ≡ 0 = omega arith in
      let q : (R us).phase ≡ suc p = omega arith in
      let y : length ws - suc p ≡ j = omega arith in
      rw (drop-cons ws j no_round (omega arith), y, ← q)
      (round_same n m f (R us) _ (playable OneRound n f v S range us few (omega arith)).ready c _
      (heads_same OneRound n f v S range m us (stands OneRound S most p (suc j) (omega arith)))
      (few_struck OneRound n f S.limit v (faults_of OneRound n m ws) (few_faults OneRound n m f ws W) p) (few_in n f j ws W) (no_head n f))

  -- what the records hold after p + 1 phases, without the last j rounds
  keeps : (K : Family) (S : Sized K n f) → length ws ≤ most_rounds K → (p j : ℕ) → length ws ≡ rounds_of K * suc p + j → let e = end_after K n f v (faults_of K n m ws) p in
      (i : ℕ) → Hears n i → bit_of (marks_at (drop j ws)) i ≡ false
      → HoldsBetween (lowest receivers e) (highest receivers e) ((ring_after K n f v (drop j ws)).heads i).seat.kept
  unfolding ring_after faults_of
  keeps TwoRounds S most p j e =
      let F = faults_of TwoRounds n m ws in
      let R = ring_after TwoRounds n f v in
      let us = drop (suc (suc j)) ws in
      let few = few_earlier n f (suc (suc j)) ws W in
      let C = counted TwoRounds n f v us in
      let d = length-drop (suc (suc j)) ws in
      let c : (R us).round ≡ 0 = omega arith in
      let q : (R us).phase ≡ suc p = omega arith in
      let x : length ws - (2 * suc p - 1) ≡ suc j = omega arith in
      let y : length ws - 2 * suc p ≡ j = omega arith in
      let few-e = few_struck TwoRounds n f S.limit v F (few_faults TwoRounds n m f ws W) p in
      let same = heads_same TwoRounds n f v S range m us (stands TwoRounds S most p (suc (suc j)) (omega arith)) in
      rw (drop-cons ws j no_round (omega arith), drop-cons ws (suc j) no_round (omega arith))
      (λ i h t. rw (keeps_as n m f (R us) (get_or ws (suc j) no_round) (get_or ws j no_round) (playable TwoRounds n f v S range us few (omega arith)).ready c
      (end_after TwoRounds n f v F p) same few-e (few_in n f (suc j) ws W) (few_in n f j ws W) i h t)
      (rw (x, y, ← q) at (kept_between_in_ring TwoRounds n f S.limit v F (few_faults TwoRounds n m f ws W) p i receivers (omega (arith, S.most)))))
  keeps OneRound S most p j e =
      let F = faults_of OneRound n m ws in
      let R = ring_after OneRound n f v in
      let us = drop (suc j) ws in
      let few = few_earlier n f (suc j) ws W in
      let C = counted OneRound n f v us in
      let d = length-drop (suc j) ws in
      let c : (R us).round ≡ 0 = omega arith in
      let q : (R us).phase ≡ suc p = omega arith in
      let y : length ws - suc p ≡ j = omega arith in
      let few-e = few_struck OneRound n f S.limit v F (few_faults OneRound n m f ws W) p in
      let same = heads_same OneRound n f v S range m us (stands OneRound S most p (suc j) (omega arith)) in
      rw (drop-cons ws j no_round (omega arith))
      (λ i h t. rw (keeps_one n m f (R us) (get_or ws j no_round) (playable OneRound n f v S range us few (omega arith)).ready c
      (end_after OneRound n f v F p) same few-e (few_in n f j ws W) (no_head n f) i h t)
      (rw (y, ← q) at (kept_between_in_ring OneRound n f S.limit v F (few_faults OneRound n m f ws W) p i receivers (omega (arith, S.most)))))

-- ---- the theorems

pub within_sized : {K : Family} {n m f : ℕ} {v : ℕ → ℤ} {ws : List Round} → RingWithin K n m f v ws → Sized K n f
within_sized {K} {n} {m} {f} X = record { some = omega (arith, size_large K n f X.size); most = X.most; limit = X.size }

-- where end i stands, with the latest first, in a run with so many rounds
back_rounds : (K : Family) (n f : ℕ) (v : ℕ → ℤ) (ws : List Round) (i : ℕ) → i < length (ends_after K n f v ws)
    → length ws ≡ rounds_of K * (length (ends_after K n f v ws) - 1 - i) + back K i (ring_after K n f v ws).round
back_rounds TwoRounds n f v ws i h = omega (arith, counted TwoRounds n f v ws)
back_rounds OneRound n f v ws i h = omega (arith, counted OneRound n f v ws)

-- On sound heads and listeners the phase ends of the records are those of the messages, for the faults that the rounds amount to: end i of a list that has the
-- latest first.
pub refines : (K : Family) (n m f : ℕ) (v : ℕ → ℤ) (ws : List Round) → RingWithin K n m f v ws → let es = ends_after K n f v ws in
    (i : ℕ) → i < length es → SameEnd receivers (as_end n m (get_or es i no_end)) (end_after K n f v (faults_of K n m ws) (length es - 1 - i))
refines K n m f v ws X i h =
    let p = length (ends_after K n f v ws) - 1 - i in
    let j = back K i (ring_after K n f v ws).round in
    let A = ends_are K n f v ws i h in
    rw (A.struck, A.heads) (stands n f v X.range m ws X.few K (within_sized X) X.rounds p j (back_rounds K n f v ws i h))

pub ring_converges : RingConverges
ring_converges K n m f v ws X i k h =
    let same = refines K n m f v ws X in
    let N = length (ends_after K n f v ws) - 1 in
    let z : N - i ≡ N - (i + k) + k = omega arith in
    let more : n ≤ receivers = omega (arith, X.most) in
    demand3_same (same (i + k) h) (same i (omega arith))
    (rw z (converges K n f receivers more X.size v (faults_of K n m ws) (few_faults K n m f ws X.few) (N - (i + k)) k))

pub kept_same : {e d : End} → SameEnd receivers e d → (x : LastKept) → HoldsBetween (lowest receivers d) (highest receivers d) x
    → HoldsBetween (lowest receivers e) (highest receivers e) x
kept_same s None a = a
kept_same s (Some y) a = let (p, q) = same_bounds s in rw (p, q) a

pub ring_keeps_between : RingKeepsBetween
ring_keeps_between K n m f v ws X i h k t q =
    let es = ends_after K n f v ws in
    let p = length es - 1 - (i + 1) in
    let j = back K i (ring_after K n f v ws).round in
    let A = ends_are K n f v ws i (omega arith) in
    let z : length es - 1 - i ≡ suc p = omega arith in
    let rounds = back_rounds K n f v ws i (omega arith) in
    let (hear, sound) = hears n m (get_or es i no_end).struck k t q in
    kept_same (refines K n m f v ws X (i + 1) h) ((get_or es i no_end).heads k).seat.kept
    (rw A.heads
    (keeps n f v X.range m ws X.few K (within_sized X) X.rounds p j (rw z at rounds) k hear (rw A.struck at sound)))

-- a quiet phase (document 02, A11)
pub ring_quiet : RingQuiet
unfolding end_after after
ring_quiet K n m f v ws X i h quiet a b la lb qa qb =
    let es = ends_after K n f v ws in
    let F = faults_of K n m ws in
    let p = length es - 1 - i - 1 in
    let z : length es - 1 - i ≡ suc p = omega arith in
    let s : SameEnd receivers (as_end n m (get_or es i no_end)) (end_after K n f v F (suc p)) = rw z at (refines K n m f v ws X i (omega arith)) in
    s.at a la qa
    ∙ quiet_agrees K n f v F p (λ j l. sym (s.struck j (omega (arith, X.most))) ∙ quiet j l) a b
    ∙ sym (s.at b lb qb)
