-- More heads struck than f. For some time any number of heads may be struck in a round; who cannot end a round then, since its closing is refused
-- 25, counts as struck in it, as one that is late does (document 02, A8). Once a phase has ended with at most f heads struck in its last round,
-- and as long as no later round strikes more, all is as after a start from that end on (`HoldsSince`): nothing of the time before is left. (Late.antt says
-- what a late receiver is; here it is struck, with what it said planted.) When a ring does not get out of it by itself (`LostStaysLost`). And how long
-- it takes until all sound positions lie within one step. proofs/Recovery.antt proves them.
use Rattle.std.specs.Prelude.{◌≡◌, true, false, List, [], ◌∷◌, ◌++◌, ◌⊎◌, ℕ, ◌+◌, ◌≤◌, ◌<◌, length, get_or, ℤ, ◌≤ℤ◌, Some}
use Rattle.terms.specs.Refusals.{too_few_trusted}
use Rattle.terms.specs.Positions.{is_position}
use Rattle.terms.specs.Sizes.{ends_with, is_listener}
use Rattle.terms.specs.declared.Family.{Family}
use Rattle.terms.specs.declared.Family.TheVariants.{TwoRounds, OneRound}
use Rattle.terms.specs.Counting.{Each, sum, bit, AtMost}
use Rattle.marks.specs.Marks.{bit_of}
use Rattle.entries.specs.Tables.{table_at}
use Rattle.convergence.specs.Settling.{rule_of}
use Rattle.convergence.specs.Trust.{says_of}
use Rattle.convergence.specs.Demand3.{Demand3, AcceptedSize, Halves}
use Rattle.convergence.specs.Phases.{lowest, highest, spread}
use Rattle.convergence.specs.Recovery.{settled_phases}
use Rattle.settle_midpoint.specs.declared.Kept.{Kept}
use Rattle.head_spec.specs.declared.Closed.{Closed}
use Rattle.head_spec.specs.declared.Head.{Head}
use Rattle.head_spec.specs.Record.{given}
use Rattle.head_spec.specs.Proper.{ProperHead}
use Rattle.head_spec.specs.Calls.{hear_all, frame_for, close}
use Rattle.ring_spec.specs.Rounds.{Round, planted, Ring, opened_at, carried, most_rounds, ends_phase, PhaseEnd, receivers, is_receiver, as_end, ring_after, ends_after}
use Rattle.ring_spec.specs.Converges.{FewStruckIn, no_end, RingWithin, HoldsBetween, count_after, OneFocus}

-- a closing that is not refused
abbrev pub IsClosed : Closed → Type 0
IsClosed (Closed.Refused c) = ⊥
IsClosed Closed.Listed = Unit {0}
IsClosed (Closed.Settled k) = Unit {0}

module _ (K : Family) (n f : ℕ) (v : ℕ → ℤ) where
  -- In each round every head and every listener that is not struck ends it, however many are struck. (A listener that is not there is marked.)
  unfoldable pub EachEnds : List Round → Type 0
  EachEnds [] = Unit {0}
  EachEnds (w ∷ ws) =
      ((i : ℕ) → (i < n) ⊎ (is_listener i ≡ true) → bit_of w.struck i ≡ false
      → let R = ring_after K n f v ws in IsClosed (close (hear_all (opened_at K n f R w i) (carried K n f R w i) n)).closed)
      × EachEnds ws

-- Of a list of ends, the latest first, of which so many are early: what is promised of the last early one and of all later ones. Each part is one of
-- Converges.antt.
pub record HoldsSince (K : Family) (n m f early : ℕ) (es : List PhaseEnd) : Type 0 where
  -- any two keep demand 3
  pub converges : (i k : ℕ) → i + k + early ≤ length es
      → Demand3 receivers (Halves K n f) k (as_end n m (get_or es (i + k) no_end)) (as_end n m (get_or es i no_end))
  -- each sound device holds a kept range between the sound positions that the phase started from (document 02, A2)
  pub between : (i : ℕ) → i + 1 + early ≤ length es → let e = as_end n m (get_or es (i + 1) no_end) in let e' = get_or es i no_end in
      Each receivers (λ j. (as_end n m e').struck j ≡ false
      → HoldsBetween (lowest receivers e) (highest receivers e) (e'.heads j).seat.kept)
  -- at the end of a phase whose last round marks no head, all sound devices hold one position (A11)
  pub quiet : (i : ℕ) → i + 1 + early ≤ length es → OneFocus n (as_end n m (get_or es i no_end))
  -- from 21 phases on all sound positions lie within one step, if halving is promised
  pub one_step : Halves K n f → (i : ℕ) → i + settled_phases + early ≤ length es → spread receivers (as_end n m (get_or es i no_end)) ≤ 1

-- us: the rounds of that time, with any strikes; w: the last round of a phase; ws: the rounds after it, the latest first. The ends from the one
-- after w on are the first ones of the list.
abbrev pub OverloadForgotten : Type 0
OverloadForgotten =
    (K : Family) (n m f : ℕ) (v : ℕ → ℤ) (ws : List Round) (w : Round) (us : List Round)
    → n ≤ 32 → AcceptedSize K n f → Each n (λ i. is_position (v i) ≡ true) → length (ws ++ w ∷ us) ≤ most_rounds K
    → EachEnds K n f v (w ∷ us) → ends_phase K (length (w ∷ us)) ≡ true
    → AtMost f n (bit_of w.struck) → FewStruckIn n f ws
    → HoldsSince K n m f (length (ends_after K n f v (w ∷ us))) (ends_after K n f v (ws ++ w ∷ us))

-- Later rounds are ended by everyone too; and as long as each round is, the counts are right, whoever is struck (`RingCounts`).
abbrev pub LaterEnd : Type 0
LaterEnd =
    (K : Family) (n f : ℕ) (v : ℕ → ℤ) (ws : List Round) (w : Round) (us : List Round)
    → n ≤ 32 → AcceptedSize K n f → Each n (λ i. is_position (v i) ≡ true) → length (ws ++ w ∷ us) ≤ most_rounds K
    → EachEnds K n f v (w ∷ us) → ends_phase K (length (w ∷ us)) ≡ true
    → AtMost f n (bit_of w.struck) → FewStruckIn n f ws
    → EachEnds K n f v (ws ++ w ∷ us)

abbrev pub CountsAnyway : Type 0
CountsAnyway =
    (K : Family) (n m f : ℕ) (v : ℕ → ℤ) (ws : List Round)
    → n ≤ 32 → AcceptedSize K n f → Each n (λ i. is_position (v i) ≡ true) → length ws ≤ most_rounds K → EachEnds K n f v ws
    → let R = ring_after K n f v ws in
    Each receivers (λ i. is_receiver n m i ≡ true → bit_of R.before i ≡ false → (R.heads i).seat.since ≡ count_after K ws i)

-- a phase after the rounds us: of two rounds, a and b, or of b alone
abbrev pub phase_after : Family → (a b : Round) (us : List Round) → List Round
phase_after TwoRounds a b us = b ∷ a ∷ us
phase_after OneRound a b us = b ∷ us

-- a round strikes no head
abbrev pub NoHead : ℕ → Round → Type 0
NoHead n w = Each n (λ j. bit_of w.struck j ≡ false)

-- After any such time a phase in which no head is struck is ended by everyone, if no more heads were struck at the phase end before it than nulls
-- are taken: 3f, or 2f in a ring of one round. So `OverloadForgotten` holds from its end on.
abbrev pub QuietEnds : Type 0
QuietEnds =
    (K : Family) (n f : ℕ) (v : ℕ → ℤ) (a b : Round) (us : List Round)
    → n ≤ 32 → AcceptedSize K n f → Each n (λ i. is_position (v i) ≡ true) → length (phase_after K a b us) ≤ most_rounds K
    → EachEnds K n f v us → ends_phase K (length us) ≡ true → AtMost (rule_of K f).most n (bit_of (ring_after K n f v us).before)
    → NoHead n a → NoHead n b
    → EachEnds K n f v (phase_after K a b us)

-- ---- a ring that is lost stays lost

-- a round that strikes nobody
abbrev pub no_strike : Round
no_strike = record { struck = 0; amended = false; plants = [] }

module _ (K : Family) (n f : ℕ) where
  -- what receiver i has heard when the round closes, if nobody is struck in it
  abbrev pub heard_unstruck : Ring → ℕ → Head
  heard_unstruck R i = hear_all (opened_at K n f R no_strike i) (λ k. frame_for (opened_at K n f R no_strike k)) n

  -- nobody is struck in the round w in truth: whom it marks is late in it, with what it said planted
  abbrev pub LateIn : Ring → Round → Type 0
  LateIn R w =
      (i k : ℕ) → (i < n) ⊎ (is_listener i ≡ true) → bit_of w.struck i ≡ false → k < n → bit_of w.struck k ≡ true
      → planted w.plants k i ≡ frame_for (opened_at K n f R no_strike k)

  -- so in the last round of each phase, of the rounds ws after the rounds us. In collection rounds anything may happen.
  abbrev pub LastUnstruck : (v : ℕ → ℤ) (ws us : List Round) → Type 0
  LastUnstruck v [] us = Unit {0}
  LastUnstruck v (w ∷ ws) us =
      let R = ring_after K n f v (ws ++ us) in (ends_with K R.round ≡ true → LateIn R w) × LastUnstruck v ws us

-- us: any rounds, the last of which ends a phase, with more heads struck in it than nulls are taken (3f, or 2f in a ring of one round). No later phase
-- has anyone struck in its last round; who is late is restarted. Then no later phase settles a position: in the last round w of each of them the
-- closing of every head and every listener is refused 25, and so each of them is marked at its end. Such a ring has to be started anew.
abbrev pub LostStaysLost : Type 0
LostStaysLost =
    (K : Family) (n f : ℕ) (v : ℕ → ℤ) (w : Round) (ws us : List Round)
    → n ≤ 32 → AcceptedSize K n f → Each n (λ i. is_position (v i) ≡ true) → length (w ∷ (ws ++ us)) ≤ most_rounds K
    → EachEnds K n f v (w ∷ (ws ++ us)) → ends_phase K (length us) ≡ true
    → (rule_of K f).most < sum n (λ j. bit (bit_of (ring_after K n f v us).before j))
    → LastUnstruck K n f v (w ∷ ws) us → ends_phase K (length (w ∷ (ws ++ us))) ≡ true
    → (i : ℕ) → (i < n) ⊎ (is_listener i ≡ true)
    → ((close (heard_unstruck K n f (ring_after K n f v (ws ++ us)) i)).closed ≡ Closed.Refused too_few_trusted) × (bit_of w.struck i ≡ true)

-- ---- the least that a record keeps, however many are struck

-- each position in what the record h heard in a last round lies between m and M: those in the lists that it was given, or in a ring of one round
-- those that were sent
abbrev pub HeardBetween : Family → Head → ℤ → ℤ → Type 0
HeardBetween TwoRounds h m M =
    Each h.seat.n (λ j. Each h.seat.n (λ k. (u : ℤ) → says_of j (given h k) ≡ Some u → (m ≤ℤ u) × (u ≤ℤ M)))
HeardBetween OneRound h m M = Each h.seat.n (λ j. (u : ℤ) → table_at h.list j ≡ Some u → (m ≤ℤ u) × (u ≤ℤ M))

-- and then so does what its closing offers: nobody comes to a position that lies beyond all that it was told
pub record OfferBetween (m M : ℤ) (k : Kept) : Type 0 where
  pub kept : (m ≤ℤ k.low) × (k.low ≤ℤ k.high) × (k.high ≤ℤ M)
  pub position : (m ≤ℤ k.position) × (k.position ≤ℤ M)

abbrev pub OffersBetween : Type 0
OffersBetween =
    (h : Head) → ProperHead h → (k : Kept) → (close h).closed ≡ Closed.Settled k → (m M : ℤ) → HeardBetween h.seat.family h m M → OfferBetween m M k

-- ---- how long it takes

-- of a list of ends, the latest first: from 21 phases after the first of them on all sound positions lie within one step
abbrev pub OneStepAtLast : (K : Family) (n m f : ℕ) (es : List PhaseEnd) → Type 0
OneStepAtLast K n m f es = Halves K n f → (i : ℕ) → i + settled_phases < length es → spread receivers (as_end n m (get_or es i no_end)) ≤ 1

abbrev pub RingWithinOneStep : Type 0
RingWithinOneStep = (K : Family) (n m f : ℕ) (v : ℕ → ℤ) (ws : List Round) → RingWithin K n m f v ws → OneStepAtLast K n m f (ends_after K n f v ws)
