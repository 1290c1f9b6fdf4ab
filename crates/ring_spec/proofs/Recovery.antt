-- More heads struck than f (specs/Recovery.antt). As long as everyone who is not struck ends its rounds, the ring stays in step (`ready_after`), and
-- who ends a phase holds a position. From an end with at most f struck on, each phase is one of `convergence`, as after the start (`stands_from`).
use Rattle.std.specs.Prelude.{None, Some}
use mathlib.Core.Path.{◌≡◌, refl, ap, ap₂, sym, subst, ◌∙◌}
use mathlib.Core.Bool.{Bool, true, false, cond, true≢false}
use mathlib.Core.Logic.{◌≢◌, inl}
use mathlib.Core.List.{List, [], ◌∷◌, ◌++◌}
use Prim.Native.Nat.{ℕ, zero, suc, ◌+◌, ◌-◌, ◌*◌, ◌%◌, ◌≤◌, ◌<◌}
use native.Mathlib.Omega.{arith}
use lib.ListN.{length, get_or, drop, length-drop, length-append, drop_of_length-le}
use lib.Seq.{drop-cons, drop-append-le}
use borrow.Author.Tests.{eqb-true, eq-eqb}
use lib.IntN.{ℤ, pos, negsuc}
use lib.Signed.{◌≤ℤ◌}
use Rattle.terms.specs.Refusals.{run_has_ended, too_few_trusted}
use Rattle.terms.specs.Positions.{is_position, rounding}
use Rattle.terms.specs.Entry.{Entry}
use Rattle.terms.specs.declared.Family.{Family}
use Rattle.terms.specs.declared.Family.TheVariants.{TwoRounds, OneRound}
use Rattle.terms.specs.Sizes.{rounds_of, ends_with, is_listener}
use Rattle.terms.specs.Counting.{Each, sum, bit, AtMost}
use Rattle.terms.proofs.Sums.{sum_same, sum_one}
use Rattle.marks.specs.Marks.{bit_of}
use Rattle.marks.proofs.Marks.{bit_none}
use Rattle.terms.proofs.Whole.{position_within}
use Rattle.terms.proofs.Sizes.{member_not_listener}
use Rattle.convergence.specs.Settling.{Rule, rule_of, midpoint, enough, settled}
use Rattle.convergence.specs.Phases.{End, Faults, entries_at, after, lowest, highest, apart, spread}
use Rattle.convergence.specs.Demand3.{HeldBetween, AcceptedSize, Halves, Demand3, FewStruck}
use Rattle.convergence.specs.Recovery.{end_from, EachHolds, settled_phases}
use Rattle.convergence.proofs.Same.{nulls_same, SameEnd, same_bounds, demand3_same}
use Rattle.convergence.proofs.Support.{not_null}
use Rattle.convergence.proofs.Demand3.{rounding_le, size_large}
use Rattle.convergence.proofs.Recovery.{few_struck_from, kept_between_from, quiet_from, converges_from, at_last_one_step, at_last_from, settles_between, trusted_is_said, quiet_recovery}
use Rattle.frame_spec.specs.Said.{collected}
use Rattle.frame_spec.specs.Proper.{Proper}
use Rattle.settle_midpoint.specs.declared.Kept.{Kept}
use Rattle.head_spec.specs.declared.Head.{Head}
use Rattle.head_spec.specs.declared.Closed.{Closed}
use Rattle.head_spec.specs.declared.Closing.{Closing}
use Rattle.head_spec.specs.Record.{given, entries_by}
use Rattle.head_spec.specs.Calls.{is_last_round, hear_all, frame_for, close, end_round}
use Rattle.head_spec.specs.Offers.{then_adopt}
use Rattle.head_spec.proofs.Proper.{Sized, ProperHead}
use Rattle.head_spec.proofs.Offers.{offer_then_adopt}
use Rattle.head_spec.proofs.RoundEnd as end
use Rattle.head_spec.proofs.RoundEnd.{enough_trusted, settled_by, ends_collection, ends_phase_lem}
use Rattle.ring_spec.specs.Rounds.{Round, planted, Ring, opened_at, carried, most_rounds, ends_phase, round_then, after_round, PhaseEnd, receivers, is_out, as_end, ring_after, ends_after}
use Rattle.ring_spec.specs.Converges.{FewStruckIn, no_end, HoldsBetween, OneFocus}
use Rattle.ring_spec.specs.Recovery.{IsClosed, EachEnds, OverloadForgotten, LaterEnd, CountsAnyway, HeardBetween, OfferBetween, OffersBetween, QuietEnds, no_strike, heard_unstruck, LateIn, LastUnstruck, LostStaysLost, RingWithinOneStep}
use Rattle.ring_spec.proofs.Receivers.{Hears, head_out, few_out, hears}
use Rattle.ring_spec.proofs.HeadsAlone.{links_same}
use Rattle.ring_spec.proofs.OneRound.{RingReady, heard_at, heard_at_lem}
use Rattle.ring_spec.proofs.Closings.{collection_next, confession_next, confession_settles}
use Rattle.ring_spec.proofs.OnePhase.{faults_in, faults_in_one, end_at, marked_end, entries_two, second, keeps_as, phase_same, entries_one, keeps_one, round_same}
use Rattle.ring_spec.proofs.Counts.{Counted, counted, phase_more, next_ends}
use Rattle.ring_spec.proofs.Demand3.{no_round, round_at, no_head, few_in, few_earlier, Playable, single_playable, first_playable, playable_next, marks_at, IsEnd, started_ring, back, EndOf, ends_are, faults_of, kept_same, refines}
use Rattle.ring_spec.proofs.Demand3 as demand3
use Rattle.ring_spec.proofs.Since.{Steps, since_of_lem, receiver_hears}

-- ---- a closing that is not refused had enough entries

pub closed_as : (h : Head) → (close h).closed ≡ (end_round h).closed
closed_as h = go (close h).closed (close h).head ∙ ap (λ (x : Closing). x.closed) (offer_then_adopt h)
  where
    go : (c : Closed) (k : Head) → c ≡ (then_adopt c k).closed
    go (Closed.Refused c) k = refl
    go Closed.Listed k = refl
    go (Closed.Settled x) k = refl

pub closed_enough : (h : Head) → h.seat.ended ≡ false → is_last_round h.seat ≡ true → IsClosed (close h).closed → enough_trusted h ≡ true
closed_enough h runs last X = go (enough_trusted h) refl
  where
    go : (b : Bool) → enough_trusted h ≡ b → b ≡ true
    go true e = refl
    go false e =
        let z : (close h).closed ≡ Closed.Refused _ = closed_as h ∙ ap (λ (x : Closing). x.closed) (end.too_few_trusted h runs last e) in
        absurd (rw z at X)

module _ (K : Family) (n f : ℕ) (R : Ring) (w : Round) (S : RingReady K n f R) (i : ℕ) (l : Hears n i) (q : bit_of w.struck i ≡ false) (last : ends_with K R.round ≡ true)
    (X : IsClosed (close (heard_at K n f R w i)).closed) where
  pub ends_enough : enough n (rule_of K f) (entries_by K (heard_at K n f R w i)) ≡ true
  ends_enough =
      let A = heard_at_lem K n f R w S i l q in
      let T = heard_at K n f R w i in
      sym (λ t. enough (A.count t) (rule_of (A.family t) (A.limit t)) (entries_by (A.family t) T))
      ∙ closed_enough T A.runs ((λ t. ends_with (A.family t) (A.round t)) ∙ last) X

  -- and then a position is held
  ends_holding : ((after_round K n f R w).heads i).seat.position ≢ None
  unfolding after_round
  ends_holding z = not_null z (confession_settles K n f R w S i l q last ends_enough)

-- a position that a record holds is a position
held_in : (n : ℕ) (x : Entry) → Proper n (collected x) → x ≢ None → HeldBetween (Some (negsuc 999_999)) (Some (pos 1_000_000)) x
held_in n None p d = absurd (d refl)
held_in n (Some u) p d = position_within u p

-- ---- the ring stays in step, however many are struck

module _ (K : Family) (n f : ℕ) (v : ℕ → ℤ) (S : Sized K n f) (range : Each n (λ i. is_position (v i) ≡ true)) where
  abbrev R : List Round → Ring
  R = ring_after K n f v

  pub ready_after : (ws : List Round) → EachEnds K n f v ws → length ws < most_rounds K → RingReady K n f (R ws)
  unfolding ring_after EachEnds
  ready_after [] X l = started_ring K n f v S range
  ready_after (w ∷ ws) X l = go (ready_after ws X.1 (omega arith)) (ends_with K (R ws).round) refl
    where
      go : RingReady K n f (R ws) → (b : Bool) → ends_with K (R ws).round ≡ b → RingReady K n f (after_round K n f (R ws) w)
      go T false c = collection_next K n f (R ws) w T c
      go T true c =
          confession_next K n f (R ws) w T c (λ i h q. ends_enough K n f (R ws) w T i h q c (X.0 i h q)) (phase_more K (counted K n f v ws) c l)

  -- ---- after a phase that ends with few struck

  module _ (w : Round) (us : List Round) (X : EachEnds K n f v (w ∷ us)) (ends : ends_phase K (length (w ∷ us)) ≡ true) (few : AtMost f n (bit_of w.struck)) where
    last : ends_with K (R us).round ≡ true
    last = let z : length us + 1 ≡ suc (length us) = omega arith in sym (next_ends K n f v us) ∙ ap (ends_phase K) z ∙ ends

    abbrev early : List Round
    early = w ∷ us

    first : (R early).round ≡ 0
    unfolding ring_after after_round
    first = ap round_then last

    few_before : (ws : List Round) → FewStruckIn n f ws → AtMost f n (bit_of (R (ws ++ early)).before)
    unfolding ring_after after_round
    few_before [] W = few
    few_before (x ∷ ws) W = W.0

    pub playable_from : (ws : List Round) → FewStruckIn n f ws → length (ws ++ early) < most_rounds K → Playable K n f (R (ws ++ early))
    unfolding ring_after
    playable_from [] W l = go K refl
      where
        go : (k : Family) → K ≡ k → Playable K n f (R early)
        go TwoRounds q = let z = ready_after early X l in let c = first in rw q (first_playable n f _ (rw q at z) (rw q at c))
        go OneRound q = let z = ready_after early X l in let c = few_before [] W in rw q (single_playable n f _ (rw q at z) (rw q at c))
    playable_from (x ∷ ws) W l =
        playable_next K n f (R (ws ++ early)) x (playable_from ws W.1 (omega arith)) (few_before ws W.1) W.0
        (λ c. phase_more K (counted K n f v (ws ++ early)) c l)

    module _ (m : ℕ) where
      -- the end after the rounds ws
      abbrev ended : List Round → End
      ended ws = as_end n m (marked_end (marks_at (ws ++ early)) (R (ws ++ early)).heads)

      before_same : (ws : List Round) → Each n (λ i. bit_of (R (ws ++ early)).before i ≡ is_out n m (marks_at (ws ++ early)) i)
      unfolding ring_after after_round
      before_same [] i l = sym (head_out n m w.struck i l)
      before_same (x ∷ ws) i l = sym (head_out n m x.struck i l)

      heads_same : (ws : List Round) {e : End} → SameEnd receivers (ended ws) e → SameEnd n (end_at (R (ws ++ early))) e
      heads_same ws s =
          record {
            struck = λ i l. before_same ws i l ∙ s.struck i (omega (arith, S.most));
            at = λ i l q. s.at i (omega (arith, S.most)) (sym (before_same ws i l) ∙ q);
          }

      -- who ended the phase holds a position
      first_holds : length early ≤ most_rounds K → EachHolds receivers (ended [])
      unfolding ring_after EachEnds
      first_holds l i b q =
          let (h, u) = hears n m w.struck i b q in
          ends_holding K n f (R us) w (ready_after us X.1 (omega arith)) i h u last (X.0 i h u)

      first_within : length early < most_rounds K
          → Each receivers (λ i. (ended []).struck i ≡ false → HeldBetween (Some (negsuc 999_999)) (Some (pos 1_000_000)) ((ended []).at i))
      unfolding ring_after after_round
      first_within l i b q =
          let (h, u) = hears n m w.struck i b q in
          let H = (ready_after early X l).heads i h u in
          held_in n ((R early).heads i).seat.position
          (subst (λ (x : ℕ). Proper x (collected ((R early).heads i).seat.position)) H.seat.count H.fresh.proper.seat.position)
          (first_holds (omega arith) i b q)

-- ---- the faults of the rounds after it, which are those of phase q + 1 and later

unfoldable faults_from : Family → (n m q : ℕ) → List Round → ℕ → Faults
faults_from TwoRounds n m q ws p = faults_in n m (q + p) (round_at ws (2 * p - 1)) (round_at ws (2 * p))
faults_from OneRound n m q ws p = faults_in_one n m (q + p) (round_at ws p)

few_faults : (K : Family) (n m f q : ℕ) (ws : List Round) → FewStruckIn n f ws → FewStruck n f (faults_from K n m q ws)
unfolding faults_from faults_in faults_in_one
few_faults TwoRounds n m f q ws W p = (few_in n f _ ws W, few_out n m _ f (few_in n f _ ws W))
few_faults OneRound n m f q ws W p = (no_head n f, few_out n m _ f (few_in n f _ ws W))

module _ (n f : ℕ) (v : ℕ → ℤ) (range : Each n (λ i. is_position (v i) ≡ true)) (m : ℕ) (w : Round) (us : List Round) (few : AtMost f n (bit_of w.struck))
    (ws : List Round) (W : FewStruckIn n f ws) where
  -- the phase that w ends
  abbrev phase_of : Family → ℕ
  phase_of K = (ring_after K n f v (w ∷ us)).phase - 1

  -- its end, and that p phases later
  abbrev first_end : Family → End
  first_end K = as_end n m (marked_end w.struck (ring_after K n f v (w ∷ us)).heads)

  abbrev end_of : Family → ℕ → End
  end_of K = end_from K n f (first_end K) (phase_of K) (faults_from K n m (phase_of K) ws)

  -- the end after p phases, without the last j rounds
  abbrev Stands : Family → ℕ → ℕ → Type 0
  Stands K p j =
      SameEnd receivers (as_end n m (marked_end (marks_at (drop j ws ++ w ∷ us)) (ring_after K n f v (drop j ws ++ w ∷ us)).heads)) (end_of K p)

  -- what the records keep there, after the first of those phases
  abbrev Keeps : Family → ℕ → ℕ → Type 0
  Keeps K zero j = Unit {0}
  Keeps K (suc p) j =
      (i : ℕ) → Hears n i → bit_of (marks_at (drop j ws ++ w ∷ us)) i ≡ false
      → HoldsBetween (lowest receivers (end_of K p)) (highest receivers (end_of K p)) ((ring_after K n f v (drop j ws ++ w ∷ us)).heads i).seat.kept

  stands_from : (K : Family) (S : Sized K n f) (X : EachEnds K n f v (w ∷ us)) (ends : ends_phase K (length (w ∷ us)) ≡ true)
      → length (ws ++ w ∷ us) ≤ most_rounds K → (p j : ℕ) → length ws ≡ rounds_of K * p + j → Stands K p j × Keeps K p j
  unfolding end_from faults_from ring_after
  stands_from K S X ends most zero j e = (rw (drop_of_length-le ws {i = j} (omega (arith))) (record { struck = λ i l. refl; at = λ i l q. refl }), tt)
  stands_from TwoRounds S X ends most (suc p) j e =
      let R = ring_after TwoRounds n f v in
      let xs = drop (suc (suc j)) ws in
      let C = counted TwoRounds n f v (xs ++ w ∷ us) in
      let C₀ = counted TwoRounds n f v (w ∷ us) in
      let c₀ = first TwoRounds n f v S range w us X ends few in
      let d = length-drop (suc (suc j)) ws in
      let a = length-append xs (w ∷ us) in
      let b = length-append ws (w ∷ us) in
      let c : (R (xs ++ w ∷ us)).round ≡ 0 = omega arith in
      let q : (R (xs ++ w ∷ us)).phase ≡ phase_of TwoRounds + suc p = omega arith in
      let x : length ws - (2 * suc p - 1) ≡ suc j = omega arith in
      let y : length ws - 2 * suc p ≡ j = omega arith in
      let same = heads_same TwoRounds n f v S range w us X ends few m xs (stands_from TwoRounds S X ends most p (suc (suc j)) (omega arith)).0 in
      let F = faults_from TwoRounds n m (phase_of TwoRounds) ws in
      let fews = few_faults TwoRounds n m f (phase_of TwoRounds) ws W in
      let few-e = few_struck_from TwoRounds n f S.limit (first_end TwoRounds) (phase_of TwoRounds) (few_out n m w.struck f few) F fews p in
      let ready = (playable_from TwoRounds n f v S range w us X ends few xs (few_earlier n f (suc (suc j)) ws W) (omega arith)).ready in
      let holds = first_holds TwoRounds n f v S range w us X ends few m (omega arith) in
      rw (drop-cons ws j no_round (omega arith), drop-cons ws (suc j) no_round (omega arith)) (
        rw (x, y, ← q) (phase_same n m f (R (xs ++ w ∷ us)) _ _ ready c _ same few-e (few_in n f (suc j) ws W) (few_in n f j ws W)),
        λ i h t. rw (keeps_as n m f (R (xs ++ w ∷ us)) (get_or ws (suc j) no_round) (get_or ws j no_round) ready c (end_of TwoRounds p) same few-e
            (few_in n f (suc j) ws W) (few_in n f j ws W) i h t)
            (rw (x, y, ← q) at (kept_between_from TwoRounds n f S.limit (first_end TwoRounds) (phase_of TwoRounds) (few_out n m w.struck f few) F fews receivers
            (omega (arith, S.most)) holds p i)),
      )
  stands_from OneRound S X ends most (suc p) j e =
      let R = ring_after OneRound n f v in
      let xs = drop (suc j) ws in
      let C = counted OneRound n f v (xs ++ w ∷ us) in
      let C₀ = counted OneRound n f v (w ∷ us) in
      let d = length-drop (suc j) ws in
      let a = length-append xs (w ∷ us) in
      let b = length-append ws (w ∷ us) in
      let c : (R (xs ++ w ∷ us)).round ≡ 0 = omega arith in
      let q : (R (xs ++ w ∷ us)).phase ≡ phase_of OneRound + suc p = omega arith in
      let y : length ws - suc p ≡ j = omega arith in
      let same = heads_same OneRound n f v S range w us X ends few m xs (stands_from OneRound S X ends most p (suc j) (omega arith)).0 in
      let F = faults_from OneRound n m (phase_of OneRound) ws in
      let fews = few_faults OneRound n m f (phase_of OneRound) ws W in
      let few-e = few_struck_from OneRound n f S.limit (first_end OneRound) (phase_of OneRound) (few_out n m w.struck f few) F fews p in
      let ready = (playable_from OneRound n f v S range w us X ends few xs (few_earlier n f (suc j) ws W) (omega arith)).ready in
      let holds = first_holds OneRound n f v S range w us X ends few m (omega arith) in
      rw (drop-cons ws j no_round (omega arith)) (
        rw (y, ← q) (round_same n m f (R (xs ++ w ∷ us)) _ ready c _ same few-e (few_in n f j ws W) (no_head n f)),
        λ i h t. rw (keeps_one n m f (R (xs ++ w ∷ us)) (get_or ws j no_round) ready c (end_of OneRound p) same few-e (few_in n f j ws W) (no_head n f) i h t)
            (rw (y, ← q) at (kept_between_from OneRound n f S.limit (first_end OneRound) (phase_of OneRound) (few_out n m w.struck f few) F fews receivers
            (omega (arith, S.most)) holds p i)),
      )

-- ---- the theorem

pub same_spread : {N : ℕ} {e e' : End} → SameEnd N e e' → spread N e ≡ spread N e'
unfolding spread
same_spread s = let (a, b) = same_bounds s in ap₂ apart a b

-- end i of the list, if it is one of those from w on: so many phases after it
module _ (K : Family) (n f : ℕ) (v : ℕ → ℤ) (ws : List Round) (w : Round) (us : List Round) (c₀ : (ring_after K n f v (w ∷ us)).round ≡ 0) where
  abbrev all : List Round
  all = ws ++ w ∷ us

  abbrev since : ℕ → ℕ
  since i = length (ends_after K n f v all) - length (ends_after K n f v (w ∷ us)) - i

  rounds_since : (i : ℕ) → i + length (ends_after K n f v (w ∷ us)) ≤ length (ends_after K n f v all)
      → length ws ≡ rounds_of K * since i + back K i (ring_after K n f v all).round
  rounds_since i h = go K (ring_after K n f v all).round (counted K n f v all) (counted K n f v (w ∷ us)) c₀ (length-append ws (w ∷ us)) h
    where
      go : (K : Family) {x y a b p q r₀ : ℕ} (r : ℕ) → Counted K x a p r → Counted K y b q r₀ → r₀ ≡ 0 → x ≡ length ws + y → i + b ≤ a
          → length ws ≡ rounds_of K * (a - b - i) + back K i r
      go TwoRounds r C D z e h = omega arith
      go OneRound r C D z e h = omega arith

-- the start is an end
some_end : (K : Family) {rounds ends phase round : ℕ} → Counted K rounds ends phase round → 1 ≤ ends
some_end TwoRounds C = omega arith
some_end OneRound C = omega arith

-- phases have rounds
some_rounds : (K : Family) {a : ℕ} (p j : ℕ) → a ≡ rounds_of K * p + j → 1 ≤ p → 1 ≤ a
some_rounds TwoRounds p j e l = omega arith
some_rounds OneRound p j e l = omega arith

pub overload_forgotten : OverloadForgotten
unfolding end_from after
overload_forgotten K n m f v ws w us small size range most X ends few W =
    record { converges = converge; between = keep; quiet = agree; one_step = near }
  where
    S : Sized K n f
    S = record { some = omega (arith, size_large K n f size); most = small; limit = size }

    es : List PhaseEnd
    es = ends_after K n f v (ws ++ w ∷ us)

    early : ℕ
    early = length (ends_after K n f v (w ∷ us))

    q₀ : ℕ
    q₀ = phase_of n f v range m w us few ws W K

    F : ℕ → Faults
    F = faults_from K n m q₀ ws

    within : FewStruck n f F
    within = few_faults K n m f q₀ ws W

    c₀ : (ring_after K n f v (w ∷ us)).round ≡ 0
    c₀ = first K n f v S range w us X ends few

    e₀ : End
    e₀ = first_end n f v range m w us few ws W K

    few₀ : AtMost f n e₀.struck
    few₀ = few_out n m w.struck f few

    later : ℕ → End
    later = end_from K n f e₀ q₀ F

    since : ℕ → ℕ
    since i = length es - early - i

    stands : (i : ℕ) → i + early ≤ length es → EndOf K n f v (get_or es i no_end) (drop (back K i (ring_after K n f v (ws ++ w ∷ us)).round) ws ++ w ∷ us)
        × Stands n f v range m w us few ws W K (since i) (back K i (ring_after K n f v (ws ++ w ∷ us)).round)
        × Keeps n f v range m w us few ws W K (since i) (back K i (ring_after K n f v (ws ++ w ∷ us)).round)
    stands i l =
        let j = back K i (ring_after K n f v (ws ++ w ∷ us)).round in
        let e = rounds_since K n f v ws w us c₀ i l in
        let A = ends_are K n f v (ws ++ w ∷ us) i (omega (arith, some_end K (counted K n f v (w ∷ us)))) in
        let (s, k) = stands_from n f v range m w us few ws W K S X ends most (since i) j e in
        (rw (drop-append-le j ws (w ∷ us) (omega arith)) at A, s, k)

    same : (i : ℕ) → i + early ≤ length es → SameEnd receivers (as_end n m (get_or es i no_end)) (later (since i))
    same i l = let (A, s, k) = stands i l in rw (A.struck, A.heads) s

    converge : (i k : ℕ) → i + k + early ≤ length es
        → Demand3 receivers (Halves K n f) k (as_end n m (get_or es (i + k) no_end)) (as_end n m (get_or es i no_end))
    converge i k h =
        let z : since i ≡ since (i + k) + k = omega arith in
        demand3_same (same (i + k) (omega arith)) (same i (omega arith))
        (rw z (converges_from K n f receivers (omega arith) size e₀ q₀ few₀
        (first_holds K n f v S range w us X ends few m (omega (arith, length-append ws (w ∷ us)))) F within (since (i + k)) k))

    keep : (i : ℕ) → i + 1 + early ≤ length es → let e = as_end n m (get_or es (i + 1) no_end) in let e' = get_or es i no_end in
        Each receivers (λ j. (as_end n m e').struck j ≡ false → HoldsBetween (lowest receivers e) (highest receivers e) (e'.heads j).seat.kept)
    keep i h j b q =
        let (A, s, k) = stands i (omega arith) in
        let z : since i ≡ suc (since (i + 1)) = omega arith in
        let (t, u) = hears n m (get_or es i no_end).struck j b q in
        kept_same (same (i + 1) h) ((get_or es i no_end).heads j).seat.kept (rw A.heads ((rw z at k) j t (rw A.struck at u)))

    agree : (i : ℕ) → i + 1 + early ≤ length es → OneFocus n (as_end n m (get_or es i no_end))
    agree i h quiet a b la lb qa qb =
        let z : since i ≡ suc (since (i + 1)) = omega arith in
        let s : SameEnd receivers (as_end n m (get_or es i no_end)) (later (suc (since (i + 1)))) = rw z at (same i (omega arith)) in
        s.at a la qa
        ∙ quiet_from K n f size e₀ q₀ few₀ F within (since (i + 1)) (λ j l. sym (s.struck j (omega arith)) ∙ quiet j l) a b
        ∙ sym (s.at b lb qb)

    near : Halves K n f → (i : ℕ) → i + settled_phases + early ≤ length es → spread receivers (as_end n m (get_or es i no_end)) ≤ 1
    near halves i h =
        let l : length (w ∷ us) < most_rounds K =
        omega (arith, some_rounds K (since i) _ (rounds_since K n f v ws w us c₀ i (omega arith)) (omega arith), length-append ws (w ∷ us)) in
        omega (
          arith,
          same_spread (same i (omega arith)),
          at_last_from K n f receivers (omega arith) size halves e₀ q₀ few₀
              (first_within K n f v S range w us X ends few m l) F within (since i) (omega arith),
        )

-- ---- later rounds are ended, and counts are right

-- a closing with enough entries is taken
pub enough_closed : (h : Head) → h.seat.ended ≡ false → is_last_round h.seat ≡ true → enough_trusted h ≡ true → IsClosed (close h).closed
enough_closed h runs last e =
    let z : (close h).closed ≡ Closed.Settled (settled_by h) = closed_as h ∙ ap (λ (x : Closing). x.closed) (ends_phase_lem h runs last e) in
    rw z tt

pub listed_closed : (h : Head) → h.seat.ended ≡ false → is_last_round h.seat ≡ false → IsClosed (close h).closed
listed_closed h runs last =
    let z : (close h).closed ≡ Closed.Listed = closed_as h ∙ ap (λ (x : Closing). x.closed) (ends_collection h runs last) in
    rw z tt

-- the entries are those of the receiver's own seat
pub seat_enough : (K : Family) (n f : ℕ) (R : Ring) (w : Round) (S : RingReady K n f R) (i : ℕ) (l : Hears n i) (q : bit_of w.struck i ≡ false)
    → ends_with K R.round ≡ true → enough n (rule_of K f) (entries_by K (heard_at K n f R w i)) ≡ true → IsClosed (close (heard_at K n f R w i)).closed
seat_enough K n f R w S i l q last e =
    let A = heard_at_lem K n f R w S i l q in
    let T = heard_at K n f R w i in
    enough_closed T A.runs ((λ t. ends_with (A.family t) (A.round t)) ∙ last)
    ((λ t. enough (A.count t) (rule_of (A.family t) (A.limit t)) (entries_by (A.family t) T)) ∙ e)

pub ready_closes : (K : Family) (n f : ℕ) (R : Ring) (w : Round) (S : RingReady K n f R) (i : ℕ) (l : Hears n i) (q : bit_of w.struck i ≡ false)
    → (ends_with K R.round ≡ true → enough n (rule_of K f) (entries_by K (heard_at K n f R w i)) ≡ true) → IsClosed (close (heard_at K n f R w i)).closed
ready_closes K n f R w S i l q calm = go (ends_with K R.round) refl
  where
    go : (b : Bool) → ends_with K R.round ≡ b → IsClosed (close (heard_at K n f R w i)).closed
    go true c = seat_enough K n f R w S i l q c (calm c)
    go false c = let A = heard_at_lem K n f R w S i l q in listed_closed (heard_at K n f R w i) A.runs ((λ t. ends_with (A.family t) (A.round t)) ∙ c)

pub later_end : LaterEnd
unfolding EachEnds
later_end K n f v [] w us small size range most X ends few W = X
later_end K n f v (x ∷ ws) w us small size range most X ends few W =
    let S : Sized K n f = record { some = omega (arith, size_large K n f size); most = small; limit = size } in
    let P = playable_from K n f v S range w us X ends few ws W.1 (omega arith) in (
      (λ i l q. ready_closes K n f (ring_after K n f v (ws ++ w ∷ us)) x P.ready i l q (λ c. P.settles c x W.0 i l q)),
      later_end K n f v ws w us small size range (omega arith) X ends few W.1,
    )

pub counts_anyway : CountsAnyway
unfolding EachEnds
counts_anyway K n m f v ws small size range most X i l e q = since_of_lem K n f v S range i h ws (each_steps ws X most) q
  where
    S : Sized K n f
    S = record { some = omega (arith, size_large K n f size); most = small; limit = size }

    h : Hears n i
    h = receiver_hears n m i l e

    each_steps : (ws : List Round) → EachEnds K n f v ws → length ws ≤ most_rounds K → Steps K n f v S range i h ws
    each_steps [] X m = tt
    each_steps (w ∷ ws) X m =
        let T = ready_after K n f v S range ws X.1 (omega arith) in
        (T, (λ q c. ends_enough K n f (ring_after K n f v ws) w T i h q c (X.0 i h q)), each_steps ws X.1 (omega arith))

-- ---- a phase in which no head is struck is ended by everyone

-- what comes to a position had enough entries
held_enough : (r n : ℕ) (R : Rule) (E : ℕ → Entry) (m M : ℤ) → HeldBetween (Some m) (Some M) (settled r n R E) → enough n R E ≡ true
unfolding settled
held_enough r n R E m M h = go (enough n R E) refl h
  where
    go : (b : Bool) → enough n R E ≡ b → HeldBetween (Some m) (Some M) (cond b (Some (midpoint r n R E)) None) → b ≡ true
    go true e k = refl
    go false e k = absurd k

module _ (K : Family) (n f : ℕ) (v : ℕ → ℤ) (S : Sized K n f) (R : Ring) (T : RingReady K n f R) (c : R.round ≡ 0) where
  abbrev start : End
  start = end_at R

  start_in : Each n (λ j. start.struck j ≡ false → HeldBetween (Some (negsuc 999_999)) (Some (pos 1_000_000)) (start.at j))
  start_in j l q =
      let H = T.heads j (inl l) q in
      let head = ap is_listener H.seat.number ∙ member_not_listener j n l S.most in
      let P = H.fresh.proper.seat in
      held_in n (R.heads j).seat.position (subst (λ (x : ℕ). Proper x (collected (R.heads j).seat.position)) H.seat.count P.position)
      (P.holds head (H.seat.round ∙ c) H.seat.healed)

  start_holds : EachHolds n start
  start_holds j l q z = go (start.at j) (start_in j l q) z
    where
      go : (x : Entry) → HeldBetween (Some (negsuc 999_999)) (Some (pos 1_000_000)) x → x ≡ None → ⊥
      go None h e = h
      go (Some u) h e = not_null e refl

  quiet_enough : AtMost (rule_of K f).most n (bit_of R.before) → (F : Faults) → Each n (λ j. F.struck_in_collection j ≡ false) → Each n (λ j. F.struck_in_confession j ≡ false) → (i : ℕ)
      → enough n (rule_of K f) (entries_at K n f start F i) ≡ true
  unfolding after
  quiet_enough few F p q i =
      held_enough 0 n (rule_of K f) (entries_at K n f start F i) _ _
      ((quiet_recovery K n f S.limit start F q 0 (omega arith)).some start_holds p few (negsuc 999_999) (pos 1_000_000) start_in i)

enough_same : (n : ℕ) (R : Rule) (E E' : ℕ → Entry) → Each n (λ j. E j ≡ E' j) → enough n R E' ≡ true → enough n R E ≡ true
unfolding enough
enough_same n R E E' h e = rw (nulls_same n E E' h) e

own_end : (n : ℕ) (R : Ring) → SameEnd n (end_at R) (end_at R)
own_end n R = record { struck = λ i l. refl; at = λ i l q. refl }

round_zero : (K : Family) {ends phase rounds : ℕ} (round : ℕ) → Counted K rounds ends phase round → ends_phase K rounds ≡ true → round ≡ 0
round_zero TwoRounds {rounds = c} round C e = let z = eqb-true (c % 2) 0 e in omega arith
round_zero OneRound round C e = omega arith

pub quiet_ends : QuietEnds
unfolding EachEnds ring_after faults_in faults_in_one
quiet_ends OneRound n f v a b us small size range most X ends few p q = (
  (λ i l d. seat_enough OneRound n f R b T i l d refl (enough_same n _ _ _ (entries_one n 0 f R b T c (end_at R) (own_end n R) i l d)
      (quiet_enough OneRound n f v S R T c few (faults_in_one n 0 R.phase b) (λ j h. refl) (λ j h. head_out n 0 b.struck j h ∙ q j h) i))),
  X,
)
  where
    S : Sized OneRound n f
    S = record { some = omega (arith, size_large OneRound n f size); most = small; limit = size }

    R : Ring
    R = ring_after OneRound n f v us

    T : RingReady OneRound n f R
    T = ready_after OneRound n f v S range us X (omega arith)

    c : R.round ≡ 0
    c = round_zero OneRound _ (counted OneRound n f v us) ends
quiet_ends TwoRounds n f v a b us small size range most X ends few p q = (
  (λ i l d. seat_enough TwoRounds n f R₁ b T₁ i l d last (enough_same n _ _ _ (entries_two n 0 f R a b T c (end_at R) (own_end n R) i l d)
      (quiet_enough TwoRounds n f v S R T c few (faults_in n 0 R.phase a b) p (λ j h. head_out n 0 b.struck j h ∙ q j h) i))),
  (
    (λ i l d. ready_closes TwoRounds n f R a T i l d (λ x. absurd (true≢false (sym x ∙ first_round)))),
    X,
  ),
)
  where
    S : Sized TwoRounds n f
    S = record { some = omega (arith, size_large TwoRounds n f size); most = small; limit = size }

    R : Ring
    R = ring_after TwoRounds n f v us

    T : RingReady TwoRounds n f R
    T = ready_after TwoRounds n f v S range us X (omega arith)

    c : R.round ≡ 0
    c = round_zero TwoRounds _ (counted TwoRounds n f v us) ends

    first_round : ends_with TwoRounds R.round ≡ false
    first_round = ap (ends_with TwoRounds) c

    R₁ : Ring
    R₁ = after_round TwoRounds n f R a

    T₁ : RingReady TwoRounds n f R₁
    T₁ = collection_next TwoRounds n f R a T first_round

    last : ends_with TwoRounds R₁.round ≡ true
    last = second n 0 f R a b T c (end_at R) (own_end n R)

-- ---- a ring that is lost stays lost

-- what everyone has to say when nobody is struck is what is heard, if who is marked is late alone and said it
module _ (K : Family) (n f : ℕ) (R : Ring) where
  pub unmarked_opens : (w : Round) (i : ℕ) → bit_of w.struck i ≡ false → opened_at K n f R w i ≡ opened_at K n f R no_strike i
  unfolding opened_at
  unmarked_opens w i q = rw (q, bit_none i)

  unstruck_carries : (i k : ℕ) → carried K n f R no_strike i k ≡ frame_for (opened_at K n f R no_strike k)
  unfolding carried
  unstruck_carries i k = rw (bit_none k)

  unstruck_heard : (i : ℕ) → heard_at K n f R no_strike i ≡ heard_unstruck K n f R i
  unfolding hear_all
  unstruck_heard i =
      rw (links_same (carried K n f R no_strike i) (λ k. frame_for (opened_at K n f R no_strike k)) n 0 (λ k l. unstruck_carries i k))

  pub late_heard : (w : Round) (i : ℕ) → bit_of w.struck i ≡ false
      → ((k : ℕ) → k < n → bit_of w.struck k ≡ true → planted w.plants k i ≡ frame_for (opened_at K n f R no_strike k))
      → heard_at K n f R w i ≡ heard_unstruck K n f R i
  unfolding hear_all carried
  late_heard w i q own =
      rw (unmarked_opens w i q, links_same (carried K n f R w i) (λ k. frame_for (opened_at K n f R no_strike k)) n 0 (λ k l. go k (omega arith) (bit_of w.struck k) refl))
    where
      go : (k : ℕ) → k < n → (b : Bool) → bit_of w.struck k ≡ b
          → cond b (planted w.plants k i) (frame_for (opened_at K n f R w k)) ≡ frame_for (opened_at K n f R no_strike k)
      go k l true e = own k l e
      go k l false e = ap frame_for (unmarked_opens w k e)

  -- with too few entries the closing is refused, and so everyone is marked
  module _ (S : RingReady K n f R) (last : ends_with K R.round ≡ true) (i : ℕ) (l : Hears n i)
      (few : enough n (rule_of K f) (entries_by K (heard_at K n f R no_strike i)) ≡ false) where
    unstruck_refused : (close (heard_unstruck K n f R i)).closed ≡ Closed.Refused too_few_trusted
    unstruck_refused =
        let A = heard_at_lem K n f R no_strike S i l (bit_none i) in
        let T = heard_at K n f R no_strike i in
        ap (λ (h : Head). (close h).closed) (sym (unstruck_heard i))
        ∙ closed_as T
        ∙ ap (λ (x : Closing). x.closed) (end.too_few_trusted T A.runs ((λ t. ends_with (A.family t) (A.round t)) ∙ last)
        ((λ t. enough (A.count t) (rule_of (A.family t) (A.limit t)) (entries_by (A.family t) T)) ∙ few))

    late_marked : (w : Round) → (bit_of w.struck i ≡ false → IsClosed (close (heard_at K n f R w i)).closed)
        → LateIn K n f R w → bit_of w.struck i ≡ true
    late_marked w ends own = go (bit_of w.struck i) refl
      where
        go : (b : Bool) → bit_of w.struck i ≡ b → b ≡ true
        go true q = refl
        go false q =
            let z : (close (heard_at K n f R w i)).closed ≡ Closed.Refused too_few_trusted =
            ap (λ (h : Head). (close h).closed) (late_heard w i q (λ k. own i k l q)) ∙ unstruck_refused in
            let x = ends q in
            absurd (rw z at x)

-- what comes to none had too few entries
none_few : (r n : ℕ) (R : Rule) (E : ℕ → Entry) → settled r n R E ≡ None → enough n R E ≡ false
unfolding settled
none_few r n R E h = go (enough n R E) h
  where
    go : (b : Bool) → cond b (Some (midpoint r n R E)) None ≡ None → b ≡ false
    go true e = absurd (not_null e refl)
    go false e = refl

few_same : (n : ℕ) (R : Rule) (E E' : ℕ → Entry) → Each n (λ j. E j ≡ E' j) → enough n R E' ≡ false → enough n R E ≡ false
unfolding enough
few_same n R E E' h e = rw (nulls_same n E E' h) e

-- so many heads were struck at the end before
abbrev ManyLost : Family → ℕ → ℕ → Ring → Type 0
ManyLost K n f R = (rule_of K f).most < sum n (λ j. bit (bit_of R.before j))

module _ (n f : ℕ) (v : ℕ → ℤ) where
  two_few : (S : Sized TwoRounds n f) (R : Ring) (a : Round) (T : RingReady TwoRounds n f R) (c : R.round ≡ 0) → ManyLost TwoRounds n f R
      → (i : ℕ) → Hears n i → enough n (rule_of TwoRounds f) (entries_by TwoRounds (heard_at TwoRounds n f (after_round TwoRounds n f R a) no_strike i)) ≡ false
  unfolding after faults_in
  two_few S R a T c many i l =
      few_same n _ _ _ (entries_two n 0 f R a no_strike T c (end_at R) (own_end n R) i l (bit_none i))
      (none_few 0 n (rule_of TwoRounds f) _ ((quiet_recovery TwoRounds n f S.limit (end_at R) (faults_in n 0 R.phase a no_strike)
      (λ j h. head_out n 0 0 j h ∙ bit_none j) 0 (omega arith)).none many i))

  one_few : (S : Sized OneRound n f) (R : Ring) (T : RingReady OneRound n f R) (c : R.round ≡ 0) → ManyLost OneRound n f R
      → (i : ℕ) → Hears n i → enough n (rule_of OneRound f) (entries_by OneRound (heard_at OneRound n f R no_strike i)) ≡ false
  unfolding after faults_in_one
  one_few S R T c many i l =
      few_same n _ _ _ (entries_one n 0 f R no_strike T c (end_at R) (own_end n R) i l (bit_none i))
      (none_few 0 n (rule_of OneRound f) _ ((quiet_recovery OneRound n f S.limit (end_at R) (faults_in_one n 0 R.phase no_strike)
      (λ j h. head_out n 0 0 j h ∙ bit_none j) 0 (omega arith)).none many i))

-- fewer nulls are taken than there are heads
most_fewer : (K : Family) (n f : ℕ) → AcceptedSize K n f → (rule_of K f).most < n
most_fewer TwoRounds n f h = omega arith
most_fewer OneRound n f h = omega arith

all_lost : (n : ℕ) (b : ℕ → Bool) → Each n (λ j. b j ≡ true) → sum n (λ j. bit (b j)) ≡ n
all_lost n b h = sum_same n (λ j. bit (b j)) (λ j. 1) (λ j l. ap bit (h j l)) ∙ sum_one n

ends_two_before : (c : ℕ) → ends_phase TwoRounds (suc (suc c)) ≡ true → ends_phase TwoRounds c ≡ true
ends_two_before c e = let z = eqb-true (suc (suc c) % 2) 0 e in eq-eqb (c % 2) 0 (omega arith)

not_both : (c : ℕ) → ends_phase TwoRounds c ≡ true → ends_phase TwoRounds (suc c) ≡ true → ⊥
not_both c d e = let x = eqb-true (c % 2) 0 d in let y = eqb-true (suc c % 2) 0 e in omega arith

module _ (n f : ℕ) (v : ℕ → ℤ) (range : Each n (λ i. is_position (v i) ≡ true)) (us : List Round) where
  abbrev before_last : Family → List Round → Ring
  before_last K ws = ring_after K n f v (ws ++ us)

  -- the last round of a phase: too few entries, and everyone is marked
  abbrev AllRefused : Family → List Round → Type 0
  AllRefused K ws =
      (i : ℕ) → Hears n i → enough n (rule_of K f) (entries_by K (heard_at K n f (before_last K ws) no_strike i)) ≡ false

  all_marked_lem : (K : Family) (S : Sized K n f) (w : Round) (ws : List Round) → EachEnds K n f v (w ∷ (ws ++ us)) → LastUnstruck K n f v (w ∷ ws) us
      → length (w ∷ (ws ++ us)) ≤ most_rounds K → ends_with K (before_last K ws).round ≡ true → AllRefused K ws
      → (i : ℕ) → Hears n i
      → ((close (heard_unstruck K n f (before_last K ws) i)).closed ≡ Closed.Refused too_few_trusted) × (bit_of w.struck i ≡ true)
  unfolding EachEnds
  all_marked_lem K S w ws X N most last few i l =
      let T = ready_after K n f v S range (ws ++ us) X.1 (omega arith) in (
        unstruck_refused K n f (before_last K ws) T last i l (few i l),
        late_marked K n f (before_last K ws) T last i l (few i l) w (X.0 i l) (N.0 last),
      )

  -- so many were lost before the phase that the next round ends
  abbrev Before : Family → List Round → Type 0
  Before OneRound ws = ManyLost OneRound n f (before_last OneRound ws)
  Before TwoRounds [] = Unit {0}
  Before TwoRounds (a ∷ ws) = ManyLost TwoRounds n f (before_last TwoRounds ws)

  lost_round : (K : Family) (S : Sized K n f) (w : Round) (ws : List Round) → EachEnds K n f v (w ∷ (ws ++ us)) → LastUnstruck K n f v (w ∷ ws) us
      → length (w ∷ (ws ++ us)) ≤ most_rounds K → ends_phase K (length us) ≡ true → ends_phase K (length (w ∷ (ws ++ us))) ≡ true → Before K ws
      → (i : ℕ) → Hears n i
      → ((close (heard_unstruck K n f (before_last K ws) i)).closed ≡ Closed.Refused too_few_trusted) × (bit_of w.struck i ≡ true)
  unfolding EachEnds ring_after
  lost_round OneRound S w ws X N most e₀ e M =
      let c = round_zero OneRound _ (counted OneRound n f v (ws ++ us)) refl in
      let T = ready_after OneRound n f v S range (ws ++ us) X.1 (omega arith) in
      all_marked_lem OneRound S w ws X N most refl (one_few n f v S (before_last OneRound ws) T c M)
  lost_round TwoRounds S w [] X N most e₀ e M = absurd (not_both (length us) e₀ e)
  lost_round TwoRounds S w (a ∷ ws) X N most e₀ e M =
      let R = before_last TwoRounds ws in
      let c = round_zero TwoRounds _ (counted TwoRounds n f v (ws ++ us)) (ends_two_before (length (ws ++ us)) e) in
      let T = ready_after TwoRounds n f v S range (ws ++ us) X.1.1 (omega arith) in
      all_marked_lem TwoRounds S w (a ∷ ws) X N most (second n 0 f R a no_strike T c (end_at R) (own_end n R))
      (two_few n f v S R a T c M)

  -- everyone was lost
  marked_many : (K : Family) → Sized K n f → (w : Round) {P : ℕ → Type 0} → ((i : ℕ) → Hears n i → P i × (bit_of w.struck i ≡ true))
      → (rule_of K f).most < sum n (λ j. bit (bit_of w.struck j))
  marked_many K S w A = omega (arith, all_lost n (bit_of w.struck) (λ j l. (A j (inl l)).1), most_fewer K n f S.limit)

  lost_before : (K : Family) (S : Sized K n f) (ws : List Round) → EachEnds K n f v (ws ++ us) → LastUnstruck K n f v ws us → length (ws ++ us) ≤ most_rounds K
      → ends_phase K (length us) ≡ true → ManyLost K n f (ring_after K n f v us) → ends_phase K (suc (length (ws ++ us))) ≡ true → Before K ws
  unfolding EachEnds ring_after after_round
  lost_before OneRound S [] X N most e₀ many e = many
  lost_before OneRound S (w ∷ ws) X N most e₀ many e =
      marked_many OneRound S w (lost_round OneRound S w ws X N most e₀ refl (lost_before OneRound S ws X.1 N.1 (omega arith) e₀ many refl))
  lost_before TwoRounds S [] X N most e₀ many e = tt
  lost_before TwoRounds S (a ∷ []) X N most e₀ many e = many
  lost_before TwoRounds S (a ∷ (w ∷ ws)) X N most e₀ many e =
      let d = ends_two_before (length (w ∷ (ws ++ us))) e in
      marked_many TwoRounds S w (lost_round TwoRounds S w ws X.1 N.1 (omega arith) e₀ d
      (lost_before TwoRounds S ws X.1.1 N.1.1 (omega arith) e₀ many d))

pub lost_stays_lost : LostStaysLost
unfolding EachEnds
lost_stays_lost K n f v w ws us small size range most X e₀ many N e =
    let S : Sized K n f = record { some = omega (arith, size_large K n f size); most = small; limit = size } in
    lost_round n f v range us K S w ws X N most e₀ e (lost_before n f v range us K S ws X.1 N.1 (omega arith) e₀ many e)

-- ---- what a closing offers lies between what was heard

module _ (h : Head) (P : ProperHead h) where
  abbrev entries : ℕ → Entry
  entries = entries_by h.seat.family h

  abbrev rule : Rule
  rule = rule_of h.seat.family h.seat.f

  entries_between : (m M : ℤ) → HeardBetween h.seat.family h m M → Each h.seat.n (λ j. (u : ℤ) → entries j ≡ Some u → (m ≤ℤ u) × (u ≤ℤ M))
  entries_between m M H = go h.seat.family H
    where
      go : (K : Family) → HeardBetween K h m M → Each h.seat.n (λ j. (u : ℤ) → entries_by K h j ≡ Some u → (m ≤ℤ u) × (u ≤ℤ M))
      go TwoRounds H j l u q = let (k, b, e) = trusted_is_said h.seat.n h.seat.f (given h) j u q in H j l k b u e
      go OneRound H j l u q = H j l u q

  abbrev is_settled : Closed → ℕ
  is_settled (Closed.Refused c) = 0
  is_settled Closed.Listed = 0
  is_settled (Closed.Settled k) = 1

  settled_so : (k : Kept) → (close h).closed ≡ Closed.Settled k → (enough_trusted h ≡ true) × (Closed.Settled (settled_by h) ≡ Closed.Settled k)
  unfolding end_round
  settled_so k e = go h.seat.ended (is_last_round h.seat) (enough_trusted h) refl refl refl
    where
      z : (end_round h).closed ≡ Closed.Settled k
      z = sym (closed_as h) ∙ e

      never : {c : Closed} → (end_round h).closed ≡ c → is_settled c ≡ 0 → ⊥
      never q o = let x : ◌≡◌ {A = ℕ} 1 0 = sym (ap is_settled z) ∙ ap is_settled q ∙ o in omega arith

      go : (a b c : Bool) → h.seat.ended ≡ a → is_last_round h.seat ≡ b → enough_trusted h ≡ c
          → (enough_trusted h ≡ true) × (Closed.Settled (settled_by h) ≡ Closed.Settled k)
      go true b c p q r = absurd (never {c = Closed.Refused run_has_ended} (rw p refl) refl)
      go false false c p q r = absurd (never (ap (λ (x : Closing). x.closed) (ends_collection h p q)) refl)
      go false true false p q r = absurd (never (ap (λ (x : Closing). x.closed) (end.too_few_trusted h p q r)) refl)
      go false true true p q r = (r, sym (ap (λ (x : Closing). x.closed) (ends_phase_lem h p q r)) ∙ z)

  abbrev offer_in : Closed → Kept → Kept
  offer_in (Closed.Settled k) d = k
  offer_in (Closed.Refused c) d = d
  offer_in Closed.Listed d = d

  pub offer_between : (k : Kept) → (close h).closed ≡ Closed.Settled k → (m M : ℤ) → HeardBetween h.seat.family h m M → OfferBetween m M k
  unfolding settled midpoint
  offer_between k e m M H =
      let (calm, q) = settled_so k e in
      let B = settles_between h.seat.family h.seat.n h.seat.f P.seat.size.limit entries calm m M (entries_between m M H) in
      subst (OfferBetween m M) (ap (λ (c : Closed). offer_in c k) q)
      (record { kept = B.kept; position = rw calm at (B.position (rounding h.seat.phase) (rounding_le h.seat.phase)) })

pub offers_between : OffersBetween
offers_between = offer_between

-- ---- how long it takes

pub ring_within_one_step : RingWithinOneStep
ring_within_one_step K n m f v ws X halves i h =
    let p = length (ends_after K n f v ws) - 1 - i in
    let s = same_spread (refines K n m f v ws X i (omega arith)) in
    omega (arith, s, at_last_one_step K n f receivers (omega (arith, X.most)) X.size halves v X.range (faults_of K n m ws) (demand3.few_faults K n m f ws X.few) p (omega arith))
