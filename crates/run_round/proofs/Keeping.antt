-- The memory keeps step with the ring. Before a round it settles what each record that is neither struck nor healed has to say, so that each unstruck
-- receiver, head or listener, hears the same in both, and makes the same of it: in collection its list, its position left as it is, in the last round of a phase its
-- new position, since no closing is refused (`ends_positions`): in a phase of two rounds from what it trusts, in one of one round from what it hears.
use Rattle.std.specs.Prelude.{None, Some}
use mathlib.Core.Path.{◌≡◌, refl, ap, ap₂, sym, ◌∙◌}
use mathlib.Core.Bool.{Bool, true, false, cond, true≢false}
use mathlib.Core.List.{List, []}
use mathlib.Core.Logic.{inl, inr}
use Prim.Native.Nat.{ℕ, zero, suc, ◌≤◌, ◌<◌}
use native.Mathlib.Omega.{arith}
use borrow.Author.Tests.{lt-ltb, le-ltb}
use lib.ListN.{get_or}
use lib.IntN.{ℤ, pos}
use Rattle.terms.specs.Entry.{Entry}
use Rattle.terms.specs.declared.Family.{Family}
use Rattle.terms.specs.declared.Family.TheVariants.{TwoRounds, OneRound}
use Rattle.terms.specs.Sizes.{ends_with}
use Rattle.marks.specs.Marks.{bit_of}
use Rattle.entries.specs.Tables.{table_at, table_of}
use Rattle.terms.specs.Counting.{Each, AtMost}
use Rattle.convergence.specs.Settling.{Rule, rule_of, midpoint, enough}
use Rattle.convergence.specs.Trust.{Given, trusted}
use Rattle.terms.specs.Positions.{rounding}
use Rattle.convergence.proofs.Same.{nulls_same, midpoint_same, trusted_same}
use Rattle.frame_spec.specs.Said.{collected, listed, confessed}
use Rattle.settle_midpoint.specs.Answers.{settling}
use Rattle.head_spec.specs.declared.Seat.{Seat}
use Rattle.head_spec.specs.declared.Head.{Head}
use Rattle.head_spec.specs.Record.{given, entries_by, heard_entry, given_of}
use Rattle.head_spec.specs.Calls.{started, started_listener, restarted, closed_collection, spoken}
use Rattle.head_spec.proofs.RoundEnd.{not_last}
use Rattle.ring_spec.specs.Rounds.{Round, Ring, receivers, is_receiver, opened_at, after_round, first_heads, ring_after}
use Rattle.ring_spec.proofs.Receivers.{Hears, listener_large, hears as hears-in}
use Rattle.ring_spec.proofs.OneRound.{RingReady, says_entry, says_list, heard_at, opened_same, opened_in}
use Rattle.ring_spec.proofs.OneRound.{heard_proper, heard_seat, heard_at_lem, heard_given, heard_list}
use Rattle.ring_spec.proofs.Closings.{collection_closed, confession_settles, after_collection, after_confession}
use Rattle.ring_spec.proofs.Demand3.{Playable}
use Rattle.ring_play.specs.declared.Stage.{Stage}
use Rattle.frame_spec.specs.Proper.{Proper}
use Rattle.ring_play.specs.Memory.{heads, hears, settles, sends, InRange, list_entry, row_in, replies, Sayable, given_entry, position_of, new_position, heard_position}
use Rattle.run_state.specs.Memory.{Memory}
use Rattle.run_state.specs.Heads.{HeadsOf}
use Rattle.entries.proofs.Tables.{table_same}
use Rattle.frame_spec.proofs.Tables.{table_of_entries}
use Rattle.run_round.proofs.Carried.{StagePlays, heads_are, hears_unstruck, settles_unstruck, said_same}

-- a record holds one position at most
pub one_position : {e : Entry} {u v : ℤ} → e ≡ Some u → e ≡ Some v → u ≡ v
one_position p q = cc

pub no_position : {A : Type 0} {v : ℤ} → None ≡ Some v → A
no_position p = let z : ◌≡◌ {A = ℕ} 0 1 = cc in absurd (omega arith)

-- a receiver that is not struck hears
hearer : (n m marks : ℕ) (i : ℕ) → i < receivers → is_receiver n m i ≡ true → bit_of marks i ≡ false → Hears n i
hearer n m marks i l r q = (hears-in n m marks i l (rw (r, q) refl)).0

-- ---- the start, with the positions of the start record: a listener holds none

module _ (K : Family) (n m f : ℕ) (most : n ≤ 32) (v : ℕ → ℤ) (M : Memory) (same : Each n (λ i. get_or M.positions i (pos 0) ≡ v i)) where
  pub start_positions : Each n (λ i. (first_heads K n f v i).seat.position ≡ Some (get_or M.positions i (pos 0)))
  unfolding first_heads started
  start_positions i l = rw (lt-ltb i 32 (omega arith)) (ap Some (sym (same i l)))

  start_always : (i : ℕ) → Hears n i → (u : ℤ) → (first_heads K n f v i).seat.position ≡ Some u → get_or M.positions i (pos 0) ≡ u
  unfolding first_heads started_listener
  start_always i (inl l) u e = one_position (start_positions i l) e
  start_always i (inr h) u e = no_position (rw (le-ltb i 32 (listener_large i h)) at e)

  pub start_keeps : (A : Entry) → HeadsOf n m A (ring_after K n f v []) M
  unfolding ring_after
  start_keeps A =
      record {
        collection = λ r i l q. start_positions i l;
        confession = λ r. absurd (omega arith);
        always = λ i l r q. start_always i (hearer n m 0 i l r q);
      }

-- with any other number of listeners
pub start_keeps_any : (K : Family) (n m k f : ℕ) (v : ℕ → ℤ) {A : Entry} (B : Entry) {M : Memory} → HeadsOf n m A (ring_after K n f v []) M
    → HeadsOf n k B (ring_after K n f v []) M
unfolding ring_after first_heads started_listener
start_keeps_any K n m k f v B {M} H =
    record { collection = H.collection; confession = λ r. absurd (omega arith); always = λ i l r q. held i l q (hearer n k 0 i l r q) }
  where
    held : (i : ℕ) → i < receivers → bit_of 0 i ≡ false → Hears n i → (u : ℤ) → (first_heads K n f v i).seat.position ≡ Some u
        → get_or M.positions i (pos 0) ≡ u
    held i l q (inl b) u e = H.always i l (rw (lt-ltb i n b)) q u e
    held i l q (inr h) u e = no_position (rw (le-ltb i 32 (listener_large i h)) at e)

-- the new position, if there are enough entries
settles_midpoint : (r n : ℕ) (z : Rule) (E : ℕ → Entry) → enough n z E ≡ true → position_of (settling r n z E) ≡ midpoint r n z E
unfolding settling midpoint
settles_midpoint r n z E e = rw e

module _ {n m f : ℕ} {R : Ring} {w : Round} {s : Stage} {plant : ℕ → ℕ → List ℕ} (P : StagePlays n m f R w s plant)
    {A : Entry} {M : Memory} (H : HeadsOf n m A R M) where
  abbrev positions : List ℤ
  positions = M.positions

  -- ---- a round in which positions are sent

  module _ {K : Family} (S : RingReady K n f R) (sending : R.round ≡ 0) where
    -- each is what a frame can say
    pub in_range : InRange s positions
    in_range k l = go (bit_of s.before k) refl
      where
        go : (b : Bool) → bit_of s.before k ≡ b → Proper (heads s) (collected (cond b None (Some (get_or positions k (pos 0)))))
        go true e = tt
        go false e =
            let l' : k < n = rw (heads_are P S) at l in
            let q : bit_of R.before k ≡ false = sym (P.before k (omega arith)) ∙ e in
            let T : Proper (R.heads k).seat.n (collected (Some (get_or positions k (pos 0)))) = rw (H.collection sending k l' q) at (S.heads k (inl l') q).fresh.proper.seat.position in
            T

    says_position : (k : ℕ) → k < n → bit_of w.struck k ≡ false → spoken (opened_at K n f R w k) ≡ sends s positions k
    says_position k l q = says_entry (opened_in K n f R w S k (inl l) q sending) ∙ rw (P.before k (omega (arith, S.size.most))) (go (bit_of R.before k) refl)
      where
        go : (b : Bool) → bit_of R.before k ≡ b
            → collected (cond b None (opened_at K n f R w k).seat.position)
            ≡ collected (cond b None (Some (get_or positions k (pos 0))))
        go true e = refl
        go false e = rw (opened_same K n f R w k q e, H.collection sending k l e)

    heard_entries : (i : ℕ) → i < receivers → Hears n i → bit_of w.struck i ≡ false
        → Each n (λ k. table_at (heard_at K n f R w i).list k ≡ list_entry s positions plant i k)
    unfolding list_entry
    heard_entries i l h q k b =
        heard_list K n f R w S i h q sending k b ∙ sym (ap heard_entry (said_same P S i l k b (sends s positions k) (says_position k b) sending))

  -- ---- a collection round

  module _ {K : Family} (S : RingReady K n f R) (first : ends_with K R.round ≡ false) where
    collection : R.round ≡ 0
    collection = (not_last K R.round first).1

    module _ (i : ℕ) (l : i < n) (q : bit_of w.struck i ≡ false) where
      abbrev T : Head
      T = heard_at K n f R w i

      -- its list when all is heard, which is proper
      heard_table : T.list ≡ table_of (heads s) (list_entry s positions plant i)
      heard_table =
          let proper = rw (heard_at_lem K n f R w S i (inl l) q).count at (heard_proper K n f R w S i (inl l) q).list in
          rw (heads_are P S)
          (sym (table_of_entries n T.list proper S.size.most)
          ∙ table_same n (table_at T.list) (list_entry s positions plant i) (heard_entries S collection i (omega (arith, S.size.most)) (inl l) q))

      list_kept : ((after_round K n f R w).heads i).list ≡ table_of (heads s) (list_entry s positions plant i)
      unfolding after_round closed_collection
      list_kept = ap (λ (h : Head). h.list) (collection_closed K n f R w S i (inl l) q first) ∙ heard_table

    -- a receiver's position, which one that is healed in this round does not have
    position_stays : (i : ℕ) → i < receivers → is_receiver n m i ≡ true → bit_of w.struck i ≡ false
        → (v : ℤ) → ((after_round K n f R w).heads i).seat.position ≡ Some v → get_or positions i (pos 0) ≡ v
    unfolding after_round closed_collection opened_at restarted
    position_stays i l r q v e =
        go (bit_of R.before i) refl
        (sym (ap (λ (h : Head). h.seat.position) (collection_closed K n f R w S i (hearer n m w.struck i l r q) q first)
        ∙ ap (λ (x : Seat). x.position) (heard_seat K n f R w S i (hearer n m w.struck i l r q) q)) ∙ e)
      where
        go : (b : Bool) → bit_of R.before i ≡ b → (opened_at K n f R w i).seat.position ≡ Some v → get_or positions i (pos 0) ≡ v
        go true b e = no_position (rw (q, b) at e)
        go false b e = H.always i l r b v (rw (opened_same K n f R w i q b) at e)

    -- the lists are kept as long as the ring has not agreed
    pub collection_keeps : {M' : Memory} → M'.positions ≡ positions
        → (A ≡ None → (i : ℕ) → row_in M'.marks M'.lists i ≡ cond (hears s i) (table_of (heads s) (list_entry s positions plant i)) (row_in M.marks M.lists i))
        → HeadsOf n m A (after_round K n f R w) M'
    unfolding after_round
    collection_keeps same new =
        let next = (after_collection K n f R w S first).1 in
        record {
          collection = λ r. absurd (omega arith);
          confession = λ r a i l q. list_kept i l q ∙ sym (new a i ∙ rw (hears_unstruck P S i l q));
          always = λ i l r q v e. rw same (position_stays i l r q v e);
        }

    pub collect_keeps : {M' : Memory} → M'.positions ≡ positions
        → (InRange s positions → (i : ℕ) → row_in M'.marks M'.lists i ≡ cond (hears s i) (table_of (heads s) (list_entry s positions plant i)) (row_in M.marks M.lists i))
        → HeadsOf n m A (after_round K n f R w) M'
    collect_keeps same new = collection_keeps same (λ a. new (in_range S collection))

  -- ---- the last round of a phase. E: the entries of each receiver, as the memory has them; u: the positions that it makes of them

  module _ {K : Family} (D : Playable K n f R) (few : AtMost f n (bit_of w.struck)) (last : ends_with K R.round ≡ true) (E : ℕ → ℕ → Entry) (u : ℕ → ℤ)
      (same : (i : ℕ) → i < receivers → Hears n i → bit_of w.struck i ≡ false → Each n (λ j. entries_by K (heard_at K n f R w i) j ≡ E i j))
      (makes : (i : ℕ) → u i ≡ position_of (settling (rounding R.phase) n (rule_of K f) (E i))) where
    module _ (i : ℕ) (l : i < receivers) (r : is_receiver n m i ≡ true) (q : bit_of w.struck i ≡ false) where
      hear : Hears n i
      hear = hearer n m w.struck i l r q

      calm : enough n (rule_of K f) (entries_by K (heard_at K n f R w i)) ≡ true
      calm = D.settles last w few i hear q

      still_calm : enough n (rule_of K f) (E i) ≡ true
      unfolding enough
      still_calm = rw (← nulls_same n _ _ (same i l hear q)) calm

      position_kept : ((after_round K n f R w).heads i).seat.position ≡ Some (u i)
      unfolding after_round
      position_kept =
          confession_settles K n f R w D.ready i hear q last calm
          ∙ ap Some (midpoint_same (rounding R.phase) n (rule_of K f) _ _ (same i l hear q)
          ∙ sym (makes i ∙ settles_midpoint (rounding R.phase) n (rule_of K f) (E i) still_calm))

    module _ (M' : Memory) (new : (i : ℕ) → get_or M'.positions i (pos 0) ≡ cond (settles s i) (u i) (get_or positions i (pos 0))) where
      -- in phase 65,535 too, where the ring ends
      pub ends_positions : Each receivers (λ i. is_receiver n m i ≡ true → bit_of w.struck i ≡ false
          → ((after_round K n f R w).heads i).seat.position ≡ Some (get_or M'.positions i (pos 0)))
      ends_positions i l r q = position_kept i l r q ∙ ap Some (sym (new i ∙ rw (settles_unstruck P D.ready i l r q)))

-- after the last round of a phase the memory holds the positions, and no list is kept
module _ (K : Family) (n m f : ℕ) (R : Ring) (w : Round) (M : Memory) where
  abbrev pub EndHeld : Type 0
  EndHeld =
      Each receivers (λ i. is_receiver n m i ≡ true → bit_of w.struck i ≡ false
      → ((after_round K n f R w).heads i).seat.position ≡ Some (get_or M.positions i (pos 0)))

  pub end_keeps : RingReady K n f R → ends_with K R.round ≡ true → EndHeld → (A : Entry) → HeadsOf n m A (after_round K n f R w) M
  unfolding after_round
  end_keeps S last held A =
      let next = (after_confession K n f R w S last).1 in
      record {
        collection = λ r i l. held i (omega (arith, S.size.most)) (rw (lt-ltb i n l));
        confession = λ r. absurd (omega arith);
        always = λ i l r q v e. one_position (held i l r q) e;
      }

-- ---- a confession round

module _ {n m f : ℕ} {R : Ring} {w : Round} {s : Stage} {plant : ℕ → ℕ → List ℕ} (P : StagePlays n m f R w s plant) {A : Entry} {M : Memory} (H : HeadsOf n m A R M)
    (fresh : A ≡ None) (D : Playable TwoRounds n f R) (few : AtMost f n (bit_of w.struck)) (last : ends_with TwoRounds R.round ≡ true) where
  abbrev S : RingReady TwoRounds n f R
  S = D.ready

  confession : R.round ≡ 1
  confession = go R.round S.round last
    where
      go : (r : ℕ) → r < 2 → ends_with TwoRounds r ≡ true → r ≡ 1
      go zero l e = absurd (true≢false (sym e))
      go (suc r) l e = omega arith

  says_row : (k : ℕ) → k < n → bit_of w.struck k ≡ false → spoken (opened_at TwoRounds n f R w k) ≡ replies s M.marks M.lists k
  says_row k l q = says_list (opened_in TwoRounds n f R w S k (inl l) q confession) ∙ rw (P.before k (omega (arith, S.size.most))) (go (bit_of R.before k) refl)
    where
      go : (b : Bool) → bit_of R.before k ≡ b
          → cond b confessed (listed (opened_at TwoRounds n f R w k).list) ≡ cond b confessed (listed (row_in M.marks M.lists k))
      go true e = refl
      go false e = rw (opened_same TwoRounds n f R w k q e, H.confession confession fresh k l e)

  -- each list is what a frame can say
  sayable : Sayable s M.marks M.lists
  sayable k l = go (bit_of s.before k) refl
    where
      go : (b : Bool) → bit_of s.before k ≡ b → Proper (heads s) (cond b confessed (listed (row_in M.marks M.lists k)))
      go true e = tt
      go false e =
          let l' : k < n = rw (heads_are P S) at l in
          let q : bit_of R.before k ≡ false = sym (P.before k (omega arith)) ∙ e in
          let B = S.heads k (inl l') q in
          let T : Proper n (listed (R.heads k).list) = rw B.seat.count at B.fresh.proper.list in
          rw (heads_are P S, ← H.confession confession fresh k l' q) T

  abbrev G : ℕ → ℕ → Given
  G i = given_entry s M.marks M.lists plant i

  trust_same : (i : ℕ) → i < receivers → Hears n i → bit_of w.struck i ≡ false
      → Each n (λ j. entries_by TwoRounds (heard_at TwoRounds n f R w i) j ≡ trusted n f (G i) j)
  unfolding given_entry
  trust_same i l h q j b =
      let B = heard_at_lem TwoRounds n f R w S i h q in
      ap₂ (λ (x y : ℕ). trusted x y (given (heard_at TwoRounds n f R w i)) j) B.count B.limit
      ∙ trusted_same n f (given (heard_at TwoRounds n f R w i)) (G i) j b
      (λ k t. heard_given TwoRounds n f R w S i h q k t
      ∙ sym (ap given_of (said_same P S i l k t (replies s M.marks M.lists k) (says_row k t) confession)))

  new_position_lem : (i : ℕ) → new_position s M.marks M.lists plant i ≡ position_of (settling (rounding R.phase) n (rule_of TwoRounds f) (trusted n f (G i)))
  unfolding new_position
  new_position_lem i =
      ap₂ (λ (a b : ℕ). position_of (settling (rounding s.phase) a (rule_of TwoRounds b) (trusted a b (G i)))) (heads_are P S) P.limit
      ∙ ap (λ (p : ℕ). position_of (settling (rounding p) n (rule_of TwoRounds f) (trusted n f (G i)))) P.phase

  pub confess_ends : (M' : Memory)
      → (Sayable s M.marks M.lists → (i : ℕ) → get_or M'.positions i (pos 0)
      ≡ cond (settles s i) (new_position s M.marks M.lists plant i) (get_or M.positions i (pos 0)))
      → EndHeld TwoRounds n m f R w M'
  confess_ends M' new = ends_positions P H D few last (λ i. trusted n f (G i)) _ trust_same new_position_lem M' (new sayable)

-- ---- the round of a phase of one round

module _ {n m f : ℕ} {R : Ring} {w : Round} {s : Stage} {plant : ℕ → ℕ → List ℕ} (P : StagePlays n m f R w s plant) {A : Entry} {M : Memory} (H : HeadsOf n m A R M)
    (D : Playable OneRound n f R) (few : AtMost f n (bit_of w.struck)) where
  abbrev S₁ : RingReady OneRound n f R
  S₁ = D.ready

  sends_here : R.round ≡ 0
  sends_here = omega (arith, S₁.round)

  heard_position_lem : (i : ℕ) → heard_position s M.positions plant i ≡ position_of (settling (rounding R.phase) n (rule_of OneRound f) (list_entry s M.positions plant i))
  unfolding heard_position
  heard_position_lem i =
      ap₂ (λ (a b : ℕ). position_of (settling (rounding s.phase) a (rule_of OneRound b) (list_entry s M.positions plant i))) (heads_are P S₁) P.limit
      ∙ ap (λ (p : ℕ). position_of (settling (rounding p) n (rule_of OneRound f) (list_entry s M.positions plant i))) P.phase

  pub conclude_ends : (M' : Memory)
      → (InRange s M.positions → (i : ℕ) → get_or M'.positions i (pos 0) ≡ cond (settles s i) (heard_position s M.positions plant i) (get_or M.positions i (pos 0)))
      → EndHeld OneRound n m f R w M'
  conclude_ends M' new =
      ends_positions P H D few refl (λ i. list_entry s M.positions plant i) _ (heard_entries P H S₁ sends_here) heard_position_lem M'
      (new (in_range P H S₁ sends_here))
