-- A phase of a ring, played on records and frames, is a phase in the sense of `convergence`: planted bytes amount to faults, since a frame says
-- something or nothing, and from an end that agrees on the sound heads each unstruck record, a listener's too, comes to hold what a receiver of `convergence`
-- holds (`phase_same`). So no closing is refused. What is heard in a round in which positions are sent is the same in both families (`said_entry`); what a phase end
-- makes of its entries, too (`calm`, `settles_as`, `keeps_as`); between them is what the entries are (`entries_two`, `entries_one`).
use Rattle.std.specs.Prelude.{None, Some}
use mathlib.Core.Path.{◌≡◌, refl, ap, ap₂, sym, subst, ◌∙◌}
use mathlib.Core.Logic.{◌≢◌, inl}
use mathlib.Core.Bool.{Bool, true, false, cond}
use mathlib.Core.List.{List}
use Prim.Native.Nat.{ℕ, ◌≤◌, ◌<◌}
use native.Mathlib.Omega.{arith}
use lib.IntN.{ℤ}
use borrow.Author.Tests.{le-leb}
use Rattle.terms.specs.Entry.{Entry}
use Rattle.terms.specs.declared.Family.{Family}
use Rattle.terms.specs.declared.Family.TheVariants.{TwoRounds, OneRound}
use Rattle.terms.specs.Sizes.{ends_with, is_listener}
use Rattle.terms.proofs.Sizes.{member_not_listener}
use Rattle.marks.specs.Marks.{bit_of}
use Rattle.entries.specs.Tables.{table_at}
use Rattle.terms.specs.Counting.{Each, AtMost}
use Rattle.convergence.specs.Settling.{nulls, rule_of, ordered, enough}
use Rattle.convergence.specs.Trust.{Given, gave, has_confessed, says_of, trusted}
use Rattle.convergence.specs.Trust as Trust
use Rattle.convergence.specs.Phases.{End, Faults, gives, list_of, given_to, entries_at, after}
use Rattle.terms.specs.Positions.{rounding}
use Rattle.convergence.proofs.Ends.{number, AllHold}
use Rattle.convergence.proofs.Same.{SameOf, nulls_same, ordered_same, midpoint_same, trusted_same_of, SameEnd}
use Rattle.convergence.proofs.Demand3.{Limits, settled_is, few_nulls_in_phase}
use Rattle.frame_spec.specs.Said.{collected, listed, confessed, said}
use Rattle.settle_midpoint.specs.Answers.{kept}
use Rattle.head_spec.specs.declared.Head.{Head}
use Rattle.head_spec.specs.Record.{given, entries_by, heard_entry, given_of}
use Rattle.head_spec.specs.Calls.{closed_collection}
use Rattle.ring_spec.specs.Rounds.{Round, planted, Ring, opened_at, after_round, PhaseEnd, receivers, is_out, as_end}
use Rattle.ring_spec.proofs.Receivers.{Hears, head_out, few_out, hears}
use Rattle.ring_spec.proofs.OneRound.{RingReady, says_entry, says_list, said_in, heard_at, said_planted, opened_same, opened_in, said_spoken, heard_at_lem, heard_given, heard_list}
use Rattle.ring_spec.proofs.Closings.{collection_closed, confession_settles, confession_keeps, after_collection, collection_next}

-- what a struck head's planted bytes amount to in a round of phase p in which positions are sent
abbrev told_in : ℕ → ℕ → Round → ℕ → ℕ → Entry
told_in n p a k i = heard_entry (said n p 0 k (planted a.plants k i))

-- the faults that the planted bytes of phase p amount to, whatever they are: a in its collection round, b in its confession round. A listener that is not there
-- counts as struck.
unfoldable pub faults_in : ℕ → ℕ → ℕ → Round → Round → Faults
faults_in n m p a b =
    record {
      struck_in_collection = bit_of a.struck;
      sent = told_in n p a;
      struck_in_confession = is_out n m b.struck;
      replied = λ k i. given_of (said n p 1 k (planted b.plants k i));
    }

-- and in a phase of one round
unfoldable pub faults_in_one : ℕ → ℕ → ℕ → Round → Faults
faults_in_one n m p a = record { struck_in_collection = λ j. false; sent = told_in n p a; struck_in_confession = is_out n m a.struck; replied = λ k i. Trust.nothing }

-- the phase end that a ring stands at before the first round of a phase
abbrev pub end_at : Ring → End
end_at R = record { struck = bit_of R.before; at = λ i. (R.heads i).seat.position }

-- an end with these marks and records
abbrev pub marked_end : ℕ → (ℕ → Head) → PhaseEnd
marked_end marks heads = record { collect = 0; confess = 0; struck = marks; heads = heads }

held : (x : Entry) → x ≢ None → x ≡ Some (number x)
held None d = absurd (d refl)
held (Some u) d = refl

-- two links that gave the same
same_given : {j : ℕ} {g g₁ g₂ : Given} → g ≡ g₁ → SameOf j g₁ g₂ → SameOf j g g₂
same_given {j} e s = record { confesses = ap has_confessed e ∙ s.confesses; says = ap (says_of j) e ∙ s.says }

-- ---- a round in which positions are sent; e: the end that the phase starts from, in the sense of `convergence`

module _ (K : Family) (n f : ℕ) (R : Ring) (a : Round) (S : RingReady K n f R) (sends : R.round ≡ 0) (e : End) (same : SameEnd n (end_at R) e) where
  -- each sound head holds a position
  pub holds : AllHold n e
  holds i l q =
      let p = same.struck i l ∙ q in
      let H = S.heads i (inl l) p in
      let head = ap is_listener H.seat.number ∙ member_not_listener i n l S.size.most in
      held (e.at i) (λ z. H.fresh.proper.seat.holds head (H.seat.round ∙ sends) H.seat.healed (same.at i l p ∙ z))

  -- what receiver i hears of head j
  said_entry : (i j : ℕ) → j < n → heard_entry (said_in K n f R a i j) ≡ gives (bit_of a.struck j) (e.struck j) (told_in n R.phase a j i) None (e.at j)
  said_entry i j l = rw (← same.struck j l) (go (bit_of a.struck j) (bit_of R.before j) refl refl)
    where
      spoke : bit_of a.struck j ≡ false → said_in K n f R a i j ≡ collected (cond (bit_of R.before j) None (opened_at K n f R a j).seat.position)
      spoke q = said_spoken K n f R a S i j l q ∙ says_entry (opened_in K n f R a S j (inl l) q sends)

      go : (c p : Bool) → bit_of a.struck j ≡ c → bit_of R.before j ≡ p
          → heard_entry (said_in K n f R a i j) ≡ gives c p (told_in n R.phase a j i) None (e.at j)
      go true p q t = ap heard_entry (said_planted K n f R a i j q) ∙ rw sends
      go false true q t = ap heard_entry (spoke q) ∙ rw t
      go false false q t = ap heard_entry (spoke q) ∙ rw (t, opened_same K n f R a j q t) (same.at j l t)

  -- entry j of the list that receiver i fills
  table_entry : (i : ℕ) → Hears n i → bit_of a.struck i ≡ false
      → Each n (λ j. table_at (heard_at K n f R a i).list j ≡ gives (bit_of a.struck j) (e.struck j) (told_in n R.phase a j i) None (e.at j))
  table_entry i l q j t = heard_list K n f R a S i l q sends j t ∙ said_entry i j t

-- ---- the last round w of a phase, if the entries from which each receiver settles are those of `convergence`

module _ (K : Family) (n m f : ℕ) (R : Ring) (w : Round) (S : RingReady K n f R) (last : ends_with K R.round ≡ true) (e : End) (F : Faults) (H : AllHold n e)
    (L : Limits K n f F e) (entries : (i : ℕ) → Hears n i → bit_of w.struck i ≡ false → Each n (λ j. entries_by K (heard_at K n f R w i) j ≡ entries_at K n f e F i j)) where
  module _ (i : ℕ) (l : Hears n i) (q : bit_of w.struck i ≡ false) where
    abbrev E : ℕ → Entry
    E = entries_at K n f e F i

    few : nulls n E ≤ (rule_of K f).most
    few = few_nulls_in_phase K n f e F L H i

    -- never refused 25
    ends_calm : enough n (rule_of K f) (entries_by K (heard_at K n f R w i)) ≡ true
    unfolding enough
    ends_calm = le-leb (nulls n (entries_by K (heard_at K n f R w i))) (rule_of K f).most (omega (arith, nulls_same n _ _ (entries i l q), few))

    -- and the new position is that of `convergence`
    settles_as : ((after_round K n f R w).heads i).seat.position ≡ (after K (rounding R.phase) n f e F).at i
    unfolding after_round after
    settles_as =
        confession_settles K n f R w S i l q last ends_calm
        ∙ ap Some (midpoint_same (rounding R.phase) n (rule_of K f) _ _ (entries i l q))
        ∙ sym (settled_is (rounding R.phase) n (rule_of K f) E few)

    -- with what `convergence` keeps
    ends_keeping : ((after_round K n f R w).heads i).seat.kept ≡ Some (kept (rounding R.phase) ((rule_of K f).trim (nulls n E)) (ordered n E))
    unfolding after_round
    ends_keeping =
        confession_keeps K n f R w S i l q last ends_calm
        ∙ ap₂ (λ (z : ℕ) (o : List ℤ). Some (kept (rounding R.phase) ((rule_of K f).trim z) o)) (nulls_same n _ _ (entries i l q))
        (ordered_same n _ _ (entries i l q))

  -- the end of the phase, with the listeners
  ends_same : ((i : ℕ) → is_out n m w.struck i ≡ F.struck_in_confession i)
      → SameEnd receivers (as_end n m (marked_end w.struck (after_round K n f R w).heads)) (after K (rounding R.phase) n f e F)
  unfolding after
  ends_same out = record { struck = λ i l. out i; at = λ i l q. let (h, u) = hears n m w.struck i l q in settles_as i h u }

-- ---- a phase of two rounds

module _ (n m f : ℕ) (R : Ring) (a b : Round) (S : RingReady TwoRounds n f R) (collection : R.round ≡ 0) (e : End) (same : SameEnd n (end_at R) e) where
  abbrev R₁ : Ring
  R₁ = after_round TwoRounds n f R a

  abbrev F : Faults
  F = faults_in n m R.phase a b

  first : ends_with TwoRounds R.round ≡ false
  first = ap (ends_with TwoRounds) collection

  list_same : (i : ℕ) → i < n → bit_of a.struck i ≡ false → Each n (λ j. table_at (R₁.heads i).list j ≡ list_of e F i j)
  unfolding after_round closed_collection list_of faults_in
  list_same i l q j t =
      ap (λ (h : Head). table_at h.list j) (collection_closed TwoRounds n f R a S i (inl l) q first) ∙ table_entry TwoRounds n f R a S collection e same i (inl l) q j t

  S₁ : RingReady TwoRounds n f R₁
  S₁ = collection_next TwoRounds n f R a S first

  confession : R₁.round ≡ 1
  confession = (after_collection TwoRounds n f R a S first).1

  pub second : ends_with TwoRounds R₁.round ≡ true
  second = ap (ends_with TwoRounds) confession

  -- what link k gave receiver i, as far as head j goes
  given_same : (i j k : ℕ) → Hears n i → bit_of b.struck i ≡ false → j < n → k < n → SameOf j (given (heard_at TwoRounds n f R₁ b i) k) (given_to e F i k)
  unfolding given_to faults_in after_round
  given_same i j k l q u t =
      rw (head_out n m b.struck k t) (same_given (heard_given TwoRounds n f R₁ b S₁ i l q k t) (go (bit_of b.struck k) (bit_of a.struck k) refl refl))
    where
      replied : Given
      replied = given_of (said n R.phase 1 k (planted b.plants k i))

      spoke : (c : Bool) → bit_of b.struck k ≡ false → bit_of a.struck k ≡ c
          → said_in TwoRounds n f R₁ b i k ≡ cond c confessed (listed (opened_at TwoRounds n f R₁ b k).list)
      spoke c d s =
          said_spoken TwoRounds n f R₁ b S₁ i k t d
          ∙ says_list (opened_in TwoRounds n f R₁ b S₁ k (inl t) d confession)
          ∙ ap (λ (x : Bool). cond x confessed (listed (opened_at TwoRounds n f R₁ b k).list)) s

      go : (d c : Bool) → bit_of b.struck k ≡ d → bit_of a.struck k ≡ c
          → SameOf j (given_of (said_in TwoRounds n f R₁ b i k)) (gives d c replied Trust.confessed (gave (list_of e F k)))
      go true c d s =
          let (p, r) = after_collection TwoRounds n f R a S first in
          same_given (ap given_of (said_planted TwoRounds n f R₁ b i k d ∙ ap₂ (λ (p r : ℕ). said n p r k (planted b.plants k i)) p r))
          (record { confesses = refl; says = refl })
      go false true d s = same_given (ap given_of (spoke true d s)) (record { confesses = refl; says = refl })
      go false false d s =
          same_given (ap given_of (spoke false d s ∙ ap (λ (h : Head). listed h.list) (opened_same TwoRounds n f R₁ b k d s)))
          (record { confesses = refl; says = list_same k t s j u })

  -- the trusted entries of receiver i are those of `convergence`
  pub entries_two : (i : ℕ) → Hears n i → bit_of b.struck i ≡ false → Each n (λ j. entries_by TwoRounds (heard_at TwoRounds n f R₁ b i) j ≡ entries_at TwoRounds n f e F i j)
  unfolding entries_at
  entries_two i l q j u =
      let A = heard_at_lem TwoRounds n f R₁ b S₁ i l q in
      ap₂ (λ (x y : ℕ). trusted x y (given (heard_at TwoRounds n f R₁ b i)) j) A.count A.limit
      ∙ trusted_same_of n f _ _ j (λ k t. given_same i j k l q u t) u

  module _ (few-e : AtMost f n e.struck) (few-a : AtMost f n (bit_of a.struck)) (few-b : AtMost f n (bit_of b.struck)) where
    limits : Limits TwoRounds n f F e
    unfolding faults_in
    limits = record { size = S.size.limit; few_c = few-a; few_d = few_out n m b.struck f few-b; few_p = few-e }

    abbrev H : AllHold n e
    H = holds TwoRounds n f R a S collection e same

    pub calm : (i : ℕ) → Hears n i → bit_of b.struck i ≡ false → enough n (rule_of TwoRounds f) (entries_by TwoRounds (heard_at TwoRounds n f R₁ b i)) ≡ true
    calm = ends_calm TwoRounds n m f R₁ b S₁ second e F H limits entries_two

    phase₁ : R₁.phase ≡ R.phase
    phase₁ = (after_collection TwoRounds n f R a S first).0

    pub keeps_as : (i : ℕ) → Hears n i → bit_of b.struck i ≡ false → let E = entries_at TwoRounds n f e F i in
        ((after_round TwoRounds n f R₁ b).heads i).seat.kept ≡ Some (kept (rounding R₁.phase) ((rule_of TwoRounds f).trim (nulls n E)) (ordered n E))
    keeps_as = ends_keeping TwoRounds n m f R₁ b S₁ second e F H limits entries_two

    pub phase_same : SameEnd receivers (as_end n m (marked_end b.struck (after_round TwoRounds n f R₁ b).heads)) (after TwoRounds (rounding R.phase) n f e F)
    unfolding faults_in
    phase_same =
        subst (λ (p : ℕ). SameEnd receivers (as_end n m (marked_end b.struck (after_round TwoRounds n f R₁ b).heads)) (after TwoRounds (rounding p) n f e F)) phase₁
        (ends_same TwoRounds n m f R₁ b S₁ second e F H limits entries_two (λ i. refl))

-- ---- a phase of one round

module _ (n m f : ℕ) (R : Ring) (a : Round) (S : RingReady OneRound n f R) (sends : R.round ≡ 0) (e : End) (same : SameEnd n (end_at R) e) where
  abbrev G : Faults
  G = faults_in_one n m R.phase a

  pub entries_one : (i : ℕ) → Hears n i → bit_of a.struck i ≡ false → Each n (λ j. entries_by OneRound (heard_at OneRound n f R a i) j ≡ entries_at OneRound n f e G i j)
  unfolding entries_at faults_in_one
  entries_one i l q j t = rw (head_out n m a.struck j t) (table_entry OneRound n f R a S sends e same i l q j t)

  module _ (few-e : AtMost f n e.struck) (few-a : AtMost f n (bit_of a.struck)) (none : AtMost f n (λ j. false)) where
    limits_one : Limits OneRound n f G e
    unfolding faults_in_one
    limits_one = record { size = S.size.limit; few_c = none; few_d = few_out n m a.struck f few-a; few_p = few-e }

    abbrev H₁ : AllHold n e
    H₁ = holds OneRound n f R a S sends e same

    pub calm_one : (i : ℕ) → Hears n i → bit_of a.struck i ≡ false → enough n (rule_of OneRound f) (entries_by OneRound (heard_at OneRound n f R a i)) ≡ true
    calm_one = ends_calm OneRound n m f R a S refl e G H₁ limits_one entries_one

    pub keeps_one : (i : ℕ) → Hears n i → bit_of a.struck i ≡ false → let E = entries_at OneRound n f e G i in
        ((after_round OneRound n f R a).heads i).seat.kept ≡ Some (kept (rounding R.phase) ((rule_of OneRound f).trim (nulls n E)) (ordered n E))
    keeps_one = ends_keeping OneRound n m f R a S refl e G H₁ limits_one entries_one

    pub round_same : SameEnd receivers (as_end n m (marked_end a.struck (after_round OneRound n f R a).heads)) (after OneRound (rounding R.phase) n f e G)
    unfolding faults_in_one
    round_same = ends_same OneRound n m f R a S refl e G H₁ limits_one entries_one (λ i. refl)
