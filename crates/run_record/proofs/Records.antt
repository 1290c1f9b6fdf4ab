-- What a record changes: what is told of the file, what the memory holds of it, and what is shown. A record with a fault changes the fault alone.
use Rattle.std.specs.Prelude.{Some}
use mathlib.Core.Path.{◌≡◌, refl, ap, sym, ◌∙◌}
use mathlib.Core.Bool.{Bool, true, false, not, cond, ◌&&◌, true≢false}
use mathlib.Core.List.{List, [], ◌∷◌, ◌++◌, append_assoc, append-nil}
use Prim.Native.Nat.{ℕ, zero, suc, ◌+◌, ◌*◌, ◌≤◌, ◌<◌}
use native.Mathlib.Omega.{arith}
use lib.Dec.{eqb, leb}
use lib.ListN.{length, get_or, drop}
use lib.IntN.{ℤ, pos}
use borrow.Author.Tests.{leb-true, ltb-true, eqb-true, not-true, eq-eqb}
use Rattle.terms.specs.Refusals as refusal
use Rattle.terms.specs.Sizes.{is_count}
use Rattle.terms.specs.Entry.{Entry}
use Rattle.terms.specs.declared.Family.{Family}
use Rattle.terms.specs.Counting.{Each}
use Rattle.terms.proofs.Booleans.{and_both}
use Rattle.head_spec.proofs.Proper.{both_passed}
use Rattle.ring_spec.specs.Rounds.{Round, Ring, ring_after, ends_after, most_rounds}
use Rattle.ring_spec.specs.Agreed.{agreed_on}
use Rattle.run_spec.specs.RunFile.{File, rounds_given, RecordKind, start, round, plant, listeners, strikes, length_in, kind_in, is_allowed, is_first, is_bare, listener_count_in, listeners_in, head_count_in, limit_in, position_in, struck_in, few_marks, sender_in, receiver_in, record_fault, with_record, stopped, judged, ring_from, ends_from}
use Rattle.run_spec.specs.Listing.{title, shown}
use Rattle.run_spec.proofs.Bytes.{first_begun}
use Rattle.run_spec.proofs.Streaming.{start_shows, plant_shows, listeners_shows, strikes_shows, stop_shows}
use Rattle.frame_slots.specs.Slots.{planted_in, PlantedThen}
use Rattle.texts.specs.declared.Text.{Text}
use Rattle.texts.specs.Texts.{bytes_of}
use Rattle.run_listing.specs.Texts.{end_line}
use Rattle.run_listing.proofs.Lines.{first_line_is}
use Rattle.run_record.specs.declared.RecordResult.{RecordResult}
use Rattle.run_state.specs.declared.Player.{Player}
use Rattle.run_state.specs.Memory.{Memory, with_slots}
use Rattle.run_state.specs.Heads.{HeadsOf}
use Rattle.run_state.specs.Changes.{fresh_player, halted, with_round_given, pair_in, with_pair_planted, with_listeners_given, with_strikes_given}
use Rattle.run_state.specs.State.{PlayerOf, MemoryOf}
use Rattle.run_round.specs.Played.{Played}
use Rattle.run_round.specs.Agrees.{Agrees}
use Rattle.run_record.specs.Next.{record_taken, Next}
use Rattle.run_record.specs.Inner.{due_to, PendingPlayed}
use Rattle.run_round.proofs.Keeping.{no_position, start_positions, start_keeps, start_keeps_any}
use Rattle.texts.proofs.Writing.{empty_text}
use Rattle.run_state.proofs.Told.{start_tells, stop_tells, round_tells, plant_tells, listeners_tells, strikes_tells, allowed_as}

shows_none : (l : List ℕ) (t : Text) → t.len ≡ 0 → l ≡ l ++ bytes_of t
shows_none l t e = rw (empty_text t e) (sym (append-nil l))

-- ---- the two ways of a record

module _ (K : RecordKind) (F : File) (s : List ℕ) where
  pub judged_stopped : (c : ℕ) → c ≡ record_fault K F s → (c ≡ 0 → ⊥) → judged K F s ≡ stopped F c
  unfolding judged
  judged_stopped zero e h = absurd (h refl)
  judged_stopped (suc c) e h = rw (← e)

  pub judged_taken : {c : ℕ} → c ≡ record_fault K F s → c ≡ 0 → judged K F s ≡ with_record K F s
  unfolding judged
  judged_taken e h = rw (← e, h)

-- ---- when a record is allowed, and what one without a fault shows of the file

module _ (F : File) (len : ℕ) where
  pub start_place : (K : Family) → is_allowed (start K) F len ≡ true → F.setup.begun ≡ false
  start_place K e = not-true F.setup.begun (and_both (not F.setup.begun) _ e).0

  pub round_place : is_allowed round F len ≡ true → F.setup.begun ≡ true
  round_place e = (and_both F.setup.begun _ e).0

  pub listeners_place : is_allowed listeners F len ≡ true → is_first F ≡ true
  listeners_place e = (and_both (is_first F) _ e).0

  pub strikes_place : is_allowed strikes F len ≡ true → is_bare F.rounds ≡ true
  strikes_place e = (and_both (is_bare F.rounds) _ e).0

start_small : (K : Family) (F : File) (s : List ℕ) → record_fault (start K) F s ≡ 0 → head_count_in s ≤ 32
unfolding is_count
start_small K F s sound =
    let count = (both_passed (eqb (length s) (6 + 4 * head_count_in s)) (is_count (head_count_in s)) 12 0 sound).1 in
    leb-true (head_count_in s) 32 (and_both (leb 1 (head_count_in s)) _ count).1

pub round_room : (F : File) (s : List ℕ) → record_fault round F s ≡ 0 → rounds_given F < most_rounds F.setup.family
round_room F s sound = ltb-true (rounds_given F) _ (both_passed (few_marks F.setup.n F.setup.f (struck_in s)) _ 13 25 sound).1

-- ---- the two ways of bytes that are taken as a record

module _ (F : File) (s : List ℕ) where
  pub taken_allowed : length s ≡ length_in s → is_allowed (kind_in s) F (length_in s) ≡ true → record_taken F s ≡ judged (kind_in s) F s
  unfolding record_taken
  taken_allowed whole may = rw (eq-eqb _ _ whole, may)

-- whether it is judged, by the player's numbers
module _ {F : File} {p : Player} (T : PlayerOf p F) (s : List ℕ) where
  pub due_whole : due_to p s ≡ true → (is_allowed (kind_in s) F (length_in s) ≡ true) × (length s ≡ length_in s)
  due_whole e =
      let (whole, may) = and_both (eqb (length s) (length_in s)) _ e in
      (allowed_as T (kind_in s) (length_in s) ∙ may, eqb-true _ _ whole)

  pub not_due : due_to p s ≡ false → record_taken F s ≡ stopped F refusal.bad_run_record
  unfolding record_taken
  not_due e = rw (allowed_as T (kind_in s) (length_in s), e)

-- ---- a round record

module _ {F : File} {t : Text} {M : Memory} (s : List ℕ) where
  pub played_turns : F.setup.begun ≡ true → F.rounds.pending ≡ true → Played F t M → PendingPlayed F s t M
  unfolding shown ring_after
  played_turns begun pending P =
      record {
        holds = record { keeps = rw pending P.keeps; level = P.level };
        shows = rw (pending, begun, P.shows) (sym (append_assoc title _ _));
      }

  pub none_turns : F.rounds.pending ≡ false → F.setup.begun ≡ true → MemoryOf F M → t.len ≡ 0 → PendingPlayed F s t M
  unfolding shown
  none_turns pending begun H none = record { holds = record { keeps = rw pending (H.keeps begun); level = H.level begun }; shows = rw (pending, empty_text t none) (sym (append-nil _)) }

-- ---- what comes of a record

-- which records the memory stands for is not settled by what is planted
same_keeps : {n m : ℕ} {A : Entry} {R : Ring} {M : Memory} {bytes lengths : List ℕ} → HeadsOf n m A R M → HeadsOf n m A R (with_slots M bytes lengths)
same_keeps K = record { collection = K.collection; confession = K.confession; always = K.always }

either_short : (b : Bool) (x y : List ℕ) → length x ≤ 140 → length y ≤ 140 → length (cond b x y) ≤ 140
either_short true x y h k = h
either_short false x y h k = k

module _ {F : File} {p : Player} {M : Memory} {r : RecordResult} where
  -- a fault: all is as it was
  pub stopped_next : {c : ℕ} → PlayerOf p F → MemoryOf F M → r.player ≡ halted p 0 c → r.text.len ≡ 0 → Next F (stopped F c) p M r M
  stopped_next {c} T H is none =
      record {
        player = rw is (stop_tells T c);
        whole = rw is refl;
        memory = record { keeps = H.keeps; level = H.level; slots = H.slots; short = H.short };
        refused = λ h. (refl, is);
        shows = stop_shows F c ∙ shows_none (shown F) r.text none;
        room = omega arith;
      }

  module _ (s : List ℕ) where
    -- a round: what was planted is gone
    pub round_next : {M' : Memory} {bytes lengths : List ℕ} {b : Bool} → shown (with_record round F s) ≡ shown F ++ bytes_of r.text → Agrees F b M' → r.text.len ≤ 64 → ((k i : ℕ) → k < 32 → k < p.n → i < 48 → planted_in bytes lengths k i ≡ [])
        → PlayerOf p F → rounds_given F < most_rounds F.setup.family → r.player ≡ with_round_given p (struck_in s) b
        → Next F (with_record round F s) p M r (with_slots M' bytes lengths)
    round_next shows A room cleared T more is =
        record {
          player = rw is (round_tells T s more A.is);
          whole = rw is refl;
          memory =
              record {
                keeps = λ b. same_keeps A.holds.keeps;
                level = λ b. A.holds.level;
                slots = λ w k i a b c. cleared k i a (rw (← T.n) b) c;
                short = λ w k i. omega arith;
              };
          refused = λ h. absurd (h refl);
          shows = shows;
          room = room;
        }

    -- a planted record: what it plants is added
    pub plant_next : {bytes lengths : List ℕ} → MemoryOf F M → length (drop 6 s) ≤ 140
        → PlantedThen (sender_in s) (receiver_in s) (drop 6 s) M.planted M.lengths bytes lengths
        → PlayerOf p F → r.player ≡ with_pair_planted p (pair_in s) → r.text.len ≡ 0
        → Next F (with_record plant F s) p M r (with_slots M bytes lengths)
    plant_next H few new T is none =
        record {
          player = rw is (plant_tells T s);
          whole = rw is refl;
          memory =
              record {
                keeps = λ b. same_keeps (H.keeps b);
                level = H.level;
                slots = λ w k i a m b. rw (new few k i a b (rw (H.slots w k i a m b) (H.short w k i)), H.slots w k i a m b);
                short = λ w k i. either_short (eqb (sender_in s) k && eqb (receiver_in s) i) (drop 6 s) _ few (H.short w k i);
              };
          refused = λ h. absurd (h refl);
          shows = plant_shows F s ∙ shows_none (shown F) r.text none;
          room = omega arith;
        }

    -- a start: the first positions
    pub start_next : (K : Family) {M' : Memory} → F.setup.begun ≡ false → record_fault (start K) F s ≡ 0
        → ((j : ℕ) → j < 32 → get_or M'.positions j (pos 0) ≡ position_in s j)
        → r.player ≡ fresh_player true K (head_count_in s) (limit_in s) → bytes_of r.text ≡ end_line (head_count_in s) 0 0 M'.positions 0 0 0 → r.text.len ≤ 64
        → Next F (with_record (start K) F s) p M r M'
    unfolding ends_after agreed_on
    start_next K {M'} begun sound first is text room =
        let most = start_small K F s sound in
        let same : Each (head_count_in s) (λ i. get_or M'.positions i (pos 0) ≡ position_in s i) = λ i l. first i (omega arith) in
        let held = start_positions K (head_count_in s) 0 (limit_in s) most (position_in s) M' same in
        record {
          player = rw is (start_tells K F s);
          whole = rw is refl;
          memory =
              record {
                keeps = λ b. start_keeps K (head_count_in s) 0 (limit_in s) most (position_in s) M' same _;
                level = λ b u a. no_position a;
                slots = λ w. absurd (true≢false (sym w));
                short = λ w. absurd (true≢false (sym w));
              };
          refused = λ h. absurd (h refl);
          shows =
              start_shows F K s begun
              ∙ ap (λ (l : List ℕ). shown F ++ l) (first_line_is K (head_count_in s) (limit_in s) (position_in s) 0 0 M'.positions most held ∙ sym text);
          room = room;
        }

    -- the number of listeners, just after the start: none of them holds a position
    pub listeners_next : is_first F ≡ true → MemoryOf F M → PlayerOf p F → r.player ≡ with_listeners_given p (listener_count_in s) → r.text.len ≡ 0
        → Next F (with_record listeners F s) p M r M
    unfolding ends_after agreed_on
    listeners_next may H T is none =
        record {
          player = rw is (listeners_tells T s (omega (arith, (first_begun F may).1)));
          whole = rw is refl;
          memory =
              record {
                keeps = λ b. recounted F.rounds.played (omega (arith, (first_begun F may).1)) (H.keeps b);
                level = λ b u. not_yet F.rounds.played (omega (arith, (first_begun F may).1));
                slots = H.slots;
                short = H.short;
              };
          refused = λ h. absurd (h refl);
          shows = listeners_shows F s may ∙ shows_none (shown F) r.text none;
          room = omega arith;
        }
      where
        recounted : (ws : List Round) → length ws ≡ 0 → {A B : Entry} → HeadsOf F.setup.n F.setup.listeners A (ring_from F.setup ws) M
            → HeadsOf F.setup.n (listener_count_in s) B (ring_from F.setup ws) M
        recounted [] z {B = B} K = start_keeps_any F.setup.family F.setup.n F.setup.listeners (listener_count_in s) F.setup.f F.setup.first B K
        recounted (w ∷ ws) z K = absurd (omega arith)

        -- no end but the start is there
        not_yet : (ws : List Round) → length ws ≡ 0 → {A : Type 0} {u : ℤ} → agreed_on F.setup.n (listener_count_in s) (ends_from F.setup ws) ≡ Some u → A
        not_yet [] z a = no_position a
        not_yet (w ∷ ws) z a = absurd (omega arith)

    -- the struck listeners of a round whose marks are those of heads so far
    pub strikes_next : F.rounds.last.struck < 4294967296 → MemoryOf F M → PlayerOf p F → r.player ≡ with_strikes_given p (listeners_in s) → r.text.len ≡ 0
        → Next F (with_record strikes F s) p M r M
    strikes_next small H T is none =
        record {
          player = rw is (strikes_tells T s small);
          whole = rw is refl;
          memory = record { keeps = H.keeps; level = H.level; slots = H.slots; short = H.short };
          refused = λ h. absurd (h refl);
          shows = strikes_shows F s ∙ shows_none (shown F) r.text none;
          room = omega arith;
        }
