-- Demand 3 of devices. A ring of devices agrees with the plain ring of `as_rounds` on all receivers that the round before did not mark
-- (`devices_along`), and so at phase ends on all that it is compared by (`ends_same`): a marked device counts as struck there. What
-- ring_spec proves of plain rings does the rest.
use mathlib.Core.Path.{◌≡◌, refl, ap, sym, ◌∙◌}
use mathlib.Core.Bool.{Bool, true, false, cond}
use mathlib.Core.List.{List, [], ◌∷◌}
use mathlib.Core.Logic.{inl, inr}
use Prim.Native.Nat.{ℕ, zero, suc, ◌+◌, ◌/◌, ◌≤◌, ◌<◌, min}
use native.Mathlib.Omega.{arith}
use borrow.Author.Tests.{lt-ltb, le-ltb}
use lib.Dec.{ltb}
use lib.ListN.{length, get_or}
use lib.IntN.{ℤ}
use Rattle.terms.specs.Positions.{is_position}
use Rattle.terms.specs.Sizes.{rounds_of, ends_with}
use Rattle.terms.specs.declared.Family.{Family}
use Rattle.terms.specs.declared.Family.TheVariants.{TwoRounds, OneRound}
use Rattle.marks.specs.Marks.{bit_of}
use Rattle.terms.specs.Counting.{Each, bit, AtMost}
use Rattle.convergence.specs.Settling.{rule_of, enough}
use Rattle.convergence.specs.Phases.{lowest, highest}
use Rattle.convergence.proofs.Same.{SameEnd, same_bounds, demand3_same}
use Rattle.head_spec.specs.declared.Head.{Head}
use Rattle.head_spec.specs.declared.Answer.{Answer}
use Rattle.head_spec.specs.Record.{entries_by}
use Rattle.head_spec.specs.Calls.{started, start, started_listener, start_listener, said_to, frame_for}
use Rattle.head_spec.specs.Seats.{most_counted}
use Rattle.head_spec.proofs.Proper.{Sized, start_accepted, start_listener_accepted}
use Rattle.head_spec.proofs.Stops.{takes, starts_anew, listener_starts_anew}
use Rattle.head_spec.proofs.Hearing.{Fresh}
use Rattle.ring_spec.specs.Rounds.{Round, Ring, after_round, first_heads, ring_after, most_rounds, ends_phase, ends_since}
use Rattle.ring_spec.specs.Rounds.{PhaseEnd, phase_end, receivers, is_receiver, is_out, as_end, all_listeners, with_end, first_end, ends_after}
use Rattle.ring_spec.specs.Converges.{FewStruckIn, no_end, RingWithin, AnyTwo, HoldsBetween, count_after, OneFocus}
use Rattle.ring_spec.proofs.Receivers.{Hears, listener_large}
use Rattle.ring_spec.proofs.OneRound.{RingReady, heard_at}
use Rattle.ring_spec.proofs.Counts.{Counted, counted}
use Rattle.ring_spec.proofs.Demand3.{Playable, playable, within_sized, ring_converges, ring_keeps_between, ring_quiet}
use Rattle.ring_spec.proofs.Since.{ring_counts}
use Rattle.ring_devices.specs.Promised.{marking, Promised}
use Rattle.ring_devices.specs.Devices.{is_accepted, DeviceRound, device_marks, again, opened_by, Carries, started_by, devices_after, ends_of_devices, RoundsWithin, DevicesWithin, DevicesConverge, DevicesUnrefused}
use Rattle.ring_devices.proofs.Planting.{receives, sound_receives, present_same, few_absent, out_same}
use Rattle.ring_devices.proofs.OneRound.{as_round, SameSound, restart_taken, opened_same, H, frame_taken, closes_in, next_same}

-- ---- phase ends: the same are counted as struck, and the others hold the same

pub record SameRecords (n m : ℕ) (e e' : PhaseEnd) : Type 0 where
  pub struck : (i : ℕ) → is_out n m e.struck i ≡ is_out n m e'.struck i
  pub heads : (i : ℕ) → is_out n m e.struck i ≡ false → e.heads i ≡ e'.heads i

pub record SameEnds (n m : ℕ) (es es' : List PhaseEnd) : Type 0 where
  pub many : length es ≡ length es'
  pub each : (i : ℕ) → SameRecords n m (get_or es i no_end) (get_or es' i no_end)

pub same_end : (n m : ℕ) {e e' : PhaseEnd} → SameRecords n m e e' → SameEnd receivers (as_end n m e) (as_end n m e')
same_end n m s =
    record {
      struck = λ i l. s.struck i;
      at = λ i l q. ap (λ (h : Head). h.seat.position) (s.heads i q);
    }

-- the end of a phase, by marks that leave out the same
pub phase_same : (K : Family) (n m a b marks marks' : ℕ) {g h : ℕ → Head} → ((i : ℕ) → is_out n m marks i ≡ is_out n m marks' i)
    → ((i : ℕ) → is_out n m marks i ≡ false → g i ≡ h i) → SameRecords n m (phase_end K a marks g) (phase_end K b marks' h)
phase_same TwoRounds n m a b marks marks' out same = record { struck = out; heads = same }
phase_same OneRound n m a b marks marks' out same = record { struck = out; heads = same }

pub same_with : (n m : ℕ) (last : Bool) {e e' : PhaseEnd} {es es' : List PhaseEnd} → SameRecords n m e e' → SameEnds n m es es'
    → SameEnds n m (with_end last e es) (with_end last e' es')
same_with n m false s S = S
same_with n m true {e} {e'} {es} {es'} s S = record { many = ap suc S.many; each = go }
  where
    go : (i : ℕ) → SameRecords n m (get_or (e ∷ es) i no_end) (get_or (e' ∷ es') i no_end)
    go zero = s
    go (suc i) = S.each i

-- ---- what is promised of one ring holds of another with the same ends, and the same records but for those that its last round marks

pub promised_same : {K : Family} {n m f : ℕ} {marks : List ℕ} {es es' : List PhaseEnd} {now now' : ℕ → Head} → SameEnds n m es es'
    → ((i : ℕ) → is_receiver n m i ≡ true → bit_of (get_or marks 0 0) i ≡ false → now i ≡ now' i)
    → Promised K n m f marks es' now' → Promised K n m f marks es now
promised_same {K} {n} {m} {f} {marks} {es} {es'} {now} {now'} S same X =
    record { many = S.many ∙ X.many; converges = converge; between = keep; counts = count; quiet = agree }
  where
    alike : (i : ℕ) → SameEnd receivers (as_end n m (get_or es i no_end)) (as_end n m (get_or es' i no_end))
    alike i = same_end n m (S.each i)

    converge : AnyTwo K n m f es
    converge i k h = demand3_same (alike (i + k)) (alike i) (X.converges i k (omega (arith, S.many)))

    keep : (i : ℕ) → i + 1 < length es → let e = as_end n m (get_or es (i + 1) no_end) in let e' = get_or es i no_end in
        Each receivers (λ j. (as_end n m e').struck j ≡ false
        → HoldsBetween (lowest receivers e) (highest receivers e) (e'.heads j).seat.kept)
    keep i h j b q =
        let (low, high) = same_bounds (alike (i + 1)) in
        rw (low, high, (S.each i).heads j q) (X.between i (omega (arith, S.many)) j b (sym ((alike i).struck j b) ∙ q))

    count : Each receivers
        (λ i. is_receiver n m i ≡ true → bit_of (get_or marks 0 0) i ≡ false → (now i).seat.since ≡ count_after K (marking marks) i)
    count i l t q = ap (λ (h : Head). h.seat.since) (same i t q) ∙ X.counts i l t q

    agree : (i : ℕ) → i + 1 < length es → OneFocus n (as_end n m (get_or es i no_end))
    agree i h quiet a b la lb qa qb =
        let s = alike i in
        s.at a la qa
        ∙ X.quiet i (omega (arith, S.many)) (λ k l. sym ((S.each i).struck k) ∙ quiet k l) a b la lb
        (sym (s.struck a la) ∙ qa)
        (sym (s.struck b lb) ∙ qb)
        ∙ sym (s.at b lb qb)

-- ---- what is known of devices as a round opens: a plain ring that is ready has the same records

pub record Known (K : Family) (n m f : ℕ) (R : Ring) : Type 0 where
  pub plain : Ring
  pub same : SameSound n m R plain
  pub ready : RingReady K n f plain

module _ (K : Family) (n m f : ℕ) (most : n ≤ 32) (few-m : m ≤ 16) (R : Ring) (A : Known K n m f R) (w : DeviceRound) where
  pub restarts_known : (i : ℕ) → is_receiver n m i ≡ true → (again K n f (R.heads i) i R.phase R.round).refusal ≡ 0
  restarts_known = restart_taken K n m f most few-m R A.plain w A.same A.ready

  -- an unmarked device's record
  pub opens_known : (i : ℕ) → is_receiver n m i ≡ true → bit_of w.marks i ≡ false
      → let h = opened_by K n f R i in Fresh h × (h.seat.number ≡ i) × (h.seat.round ≡ R.round) × (h.seat.family ≡ K)
  opens_known i t q =
      let B = H K n m f most few-m R A.plain w A.same A.ready i t q in
      let e = opened_same K n m f most few-m R A.plain w A.same A.ready i t q in (
        rw e B.fresh,
        ap (λ (h : Head). h.seat.number) e ∙ B.seat.number,
        ap (λ (h : Head). h.seat.round) e ∙ B.seat.round ∙ sym A.same.round,
        ap (λ (h : Head). h.seat.family) e ∙ B.seat.family,
      )

-- ---- a run

module _ (K : Family) (n m f : ℕ) (v : ℕ → ℤ) (memory : ℕ → Head) (most : n ≤ 32) where
  abbrev pub as_rounds : List DeviceRound → List Round
  as_rounds [] = []
  as_rounds (w ∷ ws) = as_round K n m f (devices_after K n f v memory ws) w ∷ as_rounds ws

  pub as_many : (ws : List DeviceRound) → length (as_rounds ws) ≡ length ws
  as_many [] = refl
  as_many (w ∷ ws) = ap suc (as_many ws)

  -- the same are struck
  few_within : (ws : List DeviceRound) → RoundsWithin K n f v memory m ws → FewStruckIn n f (as_rounds ws)
  unfolding as_round
  few_within [] W = W
  few_within (w ∷ ws) W = (few_absent n m most w.marks f W.0, few_within ws W.2)

  module _ (few-m : m ≤ 16) (Z : Sized K n f) (range : Each n (λ i. is_position (v i) ≡ true)) where
    -- the start of each is accepted, whatever it holds
    started_anew : (i : ℕ) → is_receiver n m i ≡ true
        → cond (ltb i 32) (start (memory i) K n f i (v i)) (start_listener (memory i) K n f i)
        ≡ takes (cond (ltb i 32) (started K n f i (v i)) (started_listener K n f i))
    started_anew i t = go (receives n m Z.most few-m i t).0
      where
        go : Hears n i
            → cond (ltb i 32) (start (memory i) K n f i (v i)) (start_listener (memory i) K n f i)
            ≡ takes (cond (ltb i 32) (started K n f i (v i)) (started_listener K n f i))
        go (inl l) =
            rw (lt-ltb i 32 (omega (arith, Z.most))) (starts_anew (memory i) K n f i (v i) (start_accepted K n f i Z l (v i) (range i l)))
        go (inr e) =
            rw (le-ltb i 32 (listener_large i e)) (listener_starts_anew (memory i) K n f i (start_listener_accepted K n f i Z e))

    started_same : (i : ℕ) → is_receiver n m i ≡ true → started_by K n f v memory i ≡ first_heads K n f v i
    unfolding started_by first_heads
    started_same i t = ap (λ (a : Answer). a.head) (started_anew i t)

    -- the same after each of these rounds
    abbrev pub SameAlong : List DeviceRound → Type 0
    SameAlong [] = Unit {0}
    SameAlong (w ∷ ws) = SameSound n m (devices_after K n f v memory (w ∷ ws)) (ring_after K n f v (as_rounds (w ∷ ws))) × SameAlong ws

    pub same_here : (ws : List DeviceRound) → SameAlong ws → SameSound n m (devices_after K n f v memory ws) (ring_after K n f v (as_rounds ws))
    unfolding devices_after ring_after
    same_here [] A = record { phase = refl; round = refl; before = λ i t. refl; heads = λ i t q. started_same i t }
    same_here (w ∷ ws) A = A.0

    few_settles : (R : Ring) (w : DeviceRound) {R' : Ring} → Playable K n f R' → AtMost f n (bit_of w.marks) → ends_with K R'.round ≡ true
        → (i : ℕ) → is_receiver n m i ≡ true → bit_of w.marks i ≡ false
        → enough n (rule_of K f) (entries_by K (heard_at K n f R' (as_round K n m f R w) i)) ≡ true
    unfolding as_round
    few_settles R w P few o i t q =
        P.settles o (as_round K n m f R w) (few_absent n m most w.marks f few) i (receives n m most few-m i t).0 (present_same n m most w.marks i t ∙ q)

    -- a round that marks at most f heads, in a ring that can play it
    pub next_few : (w : DeviceRound) (ws : List DeviceRound) → SameAlong ws → Playable K n f (ring_after K n f v (as_rounds ws)) → AtMost f n (bit_of w.marks)
        → Carries K n f (devices_after K n f v memory ws) w m → SameAlong (w ∷ ws)
    unfolding devices_after ring_after
    next_few w ws A P few C =
        let S = same_here ws A in
        (next_same K n m f most few-m _ _ w S P.ready C (few_settles (devices_after K n f v memory ws) w P few), A)

    devices_along : (ws : List DeviceRound) → RoundsWithin K n f v memory m ws → length ws ≤ most_rounds K → SameAlong ws
    devices_along [] W l = tt
    devices_along (w ∷ ws) W l =
        let y = as_many ws in
        next_few w ws (devices_along ws W.2 (omega arith)) (playable K n f v Z range (as_rounds ws) (few_within ws W.2) (omega arith)) W.0 W.1

    end_same : (w : DeviceRound) (ws : List DeviceRound) → let us = w ∷ ws in
        SameAlong us → SameRecords n m (phase_end K (devices_after K n f v memory ws).before w.marks (devices_after K n f v memory us).heads)
        (phase_end K (ring_after K n f v (as_rounds ws)).before (as_round K n m f (devices_after K n f v memory ws) w).struck
        (ring_after K n f v (as_rounds us)).heads)
    unfolding as_round ring_after after_round
    end_same w ws A =
        phase_same K n m _ _ w.marks _ (out_same n m most w.marks)
        (λ i q. let (t, e) = sound_receives n m w.marks i q in A.0.heads i t (present_same n m most w.marks i t ∙ e))

    pub ends_same : (ws : List DeviceRound) → SameAlong ws
        → SameEnds n m (ends_of_devices K n f v memory ws) (ends_after K n f v (as_rounds ws))
    unfolding ends_of_devices ends_after
    ends_same [] A = record { many = refl; each = first }
      where
        first : (i : ℕ) → SameRecords n m
            (get_or (record { collect = 0; confess = 0; struck = all_listeners; heads = started_by K n f v memory } ∷ []) i no_end)
            (get_or (first_end K n f v ∷ []) i no_end)
        first zero = record { struck = λ j. refl; heads = λ j q. started_same j (sound_receives n m all_listeners j q).0 }
        first (suc i) = record { struck = λ j. refl; heads = λ j q. refl }
    ends_same (w ∷ ws) A =
        rw (← (same_here ws A.1).round)
        (same_with n m (ends_with K (devices_after K n f v memory ws).round) (end_same w ws A) (ends_same ws A.1))

  -- ---- counts look at marks alone

  marks_many : (ws : List DeviceRound) → length (device_marks ws) ≡ length ws
  unfolding device_marks
  marks_many [] = refl
  marks_many (w ∷ ws) = ap suc (marks_many ws)

  marking_many : (xs : List ℕ) → length (marking xs) ≡ length xs
  unfolding marking
  marking_many [] = refl
  marking_many (x ∷ xs) = ap suc (marking_many xs)

  since_marked : (i : ℕ) → is_receiver n m i ≡ true → (ws : List DeviceRound) → ends_since K i (as_rounds ws) ≡ ends_since K i (marking (device_marks ws))
  unfolding ends_since marking device_marks as_round
  since_marked i t [] = refl
  since_marked i t (w ∷ ws) =
      let e : length (as_rounds ws) ≡ length (marking (device_marks ws)) = as_many ws ∙ sym (marks_many ws) ∙ sym (marking_many (device_marks ws)) in
      rw (present_same n m most w.marks i t) (λ x. cond (bit_of w.marks i) 0 (since_marked i t ws x + bit (ends_phase K (suc (e x)))))

  before_marked : (i : ℕ) → is_receiver n m i ≡ true → (ws : List DeviceRound)
      → bit_of (ring_after K n f v (as_rounds ws)).before i ≡ bit_of (get_or (device_marks ws) 0 0) i
  unfolding ring_after after_round device_marks as_round
  before_marked i t [] = refl
  before_marked i t (w ∷ ws) = present_same n m most w.marks i t

-- ---- what the plain ring gives

-- as many ends as phases, and one
ends_many : (K : Family) {rounds ends phase round : ℕ} → Counted K rounds ends phase round → ends ≡ rounds / rounds_of K + 1
ends_many TwoRounds C = omega arith
ends_many OneRound {rounds} {ends} {phase} {round} C = go
  where
    go : ends ≡ rounds / 1 + 1
    go = omega arith

module _ (K : Family) (n m f : ℕ) (v : ℕ → ℤ) (memory : ℕ → Head) (ws : List DeviceRound) (X : DevicesWithin K n m f v memory ws) where
  abbrev plain : List Round
  plain = as_rounds K n m f v memory X.most ws

  Y : RingWithin K n m f v plain
  Y =
      let y = as_many K n m f v memory X.most ws in
      record {
        most = X.most;
        listeners = X.listeners;
        size = X.size;
        range = X.range;
        few = few_within K n m f v memory X.most ws X.each;
        rounds = omega (arith, X.rounds);
      }

  sized : Sized K n f
  sized = within_sized Y

  plain_promised : Promised K n m f (device_marks ws) (ends_after K n f v plain) (ring_after K n f v plain).heads
  plain_promised =
      record {
        many = ends_many K (counted K n f v plain)
            ∙ ap (λ (x : ℕ). x / rounds_of K + 1) (as_many K n m f v memory X.most ws ∙ sym (marks_many K n m f v memory X.most ws));
        converges = ring_converges K n m f v plain Y;
        between = ring_keeps_between K n m f v plain Y;
        counts =
            λ i l t q. ring_counts K n m f v plain Y i l t (before_marked K n m f v memory X.most i t ws ∙ q)
            ∙ ap (min most_counted) (since_marked K n m f v memory X.most i t ws);
        quiet = ring_quiet K n m f v plain Y;
      }

  along : SameAlong K n m f v memory X.most X.listeners sized X.range ws
  along = devices_along K n m f v memory X.most X.listeners sized X.range ws X.each X.rounds

  sound_same : SameSound n m (devices_after K n f v memory ws) (ring_after K n f v plain)
  sound_same = same_here K n m f v memory X.most X.listeners sized X.range ws along

  promised : Promised K n m f (device_marks ws) (ends_of_devices K n f v memory ws) (devices_after K n f v memory ws).heads
  promised =
      promised_same (ends_same K n m f v memory X.most X.listeners sized X.range ws along)
      (λ i t q. sound_same.heads i t (before_marked K n m f v memory X.most i t ws ∙ q))
      plain_promised

  pub starts_taken : (i : ℕ) → is_receiver n m i ≡ true
      → (cond (ltb i 32) (start (memory i) K n f i (v i)) (start_listener (memory i) K n f i)).refusal ≡ 0
  starts_taken i t = ap (λ (a : Answer). a.refusal) (started_anew K n m f v memory X.most X.listeners sized X.range i t)

  -- ---- what a next round is promised

  module _ (w : DeviceRound) (l : length ws < most_rounds K) where
    abbrev R : Ring
    R = devices_after K n f v memory ws

    abbrev R' : Ring
    R' = ring_after K n f v plain

    plays : Playable K n f R'
    plays = let y = as_many K n m f v memory X.most ws in playable K n f v sized X.range plain Y.few (omega arith)

    -- of the next round
    pub known : Known K n m f R
    known = record { plain = R'; same = sound_same; ready = plays.ready }

    pub restarts_taken : (i : ℕ) → is_receiver n m i ≡ true → (again K n f (R.heads i) i R.phase R.round).refusal ≡ 0
    restarts_taken = restarts_known K n m f X.most X.listeners R known w

    pub frames_taken : (i k : ℕ) → is_receiver n m i ≡ true → bit_of w.marks i ≡ false → k < n → bit_of w.marks k ≡ false
        → is_accepted (said_to (opened_by K n f R i).seat k (frame_for (opened_by K n f R k))) ≡ true
    frames_taken = frame_taken K n m f X.most X.listeners R R' w sound_same plays.ready

    pub opens_fresh : (i : ℕ) → is_receiver n m i ≡ true → bit_of w.marks i ≡ false
        → let h = opened_by K n f R i in Fresh h × (h.seat.number ≡ i) × (h.seat.round ≡ R.round) × (h.seat.family ≡ K)
    opens_fresh = opens_known K n m f X.most X.listeners R known w

pub devices_converge : DevicesConverge
devices_converge = promised

-- the rounds before
pub earlier : {K : Family} {n m f : ℕ} {v : ℕ → ℤ} {memory : ℕ → Head} {w : DeviceRound} {ws : List DeviceRound}
    → DevicesWithin K n m f v memory (w ∷ ws)
    → DevicesWithin K n m f v memory ws
earlier X =
    record {
      most = X.most;
      listeners = X.listeners;
      size = X.size;
      range = X.range;
      each = X.each.2;
      rounds = omega
          (arith, X.rounds);
    }

pub devices_unrefused : DevicesUnrefused
devices_unrefused K n m f v memory w ws X =
    let Y = earlier X in
    let l : length ws < most_rounds K = omega (arith, X.rounds) in
    let R = devices_after K n f v memory ws in
    let R' = ring_after K n f v (as_rounds K n m f v memory X.most ws) in
    let S = sound_same K n m f v memory ws Y in
    let P = plays K n m f v memory ws Y w l in
    record {
      restarts = restarts_taken K n m f v memory ws Y w l;
      frames = frames_taken K n m f v memory ws Y w l;
      closes = closes_in K n m f X.most X.listeners R R' w S P.ready X.each.1
          (few_settles K n m f v memory X.most X.listeners (sized K n m f v memory ws Y) X.range R w P X.each.0);
    }
