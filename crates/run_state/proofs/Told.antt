-- What the player tells of the file: before the first record, as bytes and records come, and whether a record is allowed or has a fault.
use mathlib.Core.Path.{◌≡◌, refl, ◌∙◌}
use mathlib.Core.Bool.{Bool, true, false, not, cond}
use mathlib.Core.List.{List, [], ◌∷◌}
use Prim.Native.Nat.{ℕ, suc, ◌+◌, ◌≤◌, ◌<◌}
use native.Mathlib.Omega.{arith}
use lib.Dec.{eqb}
use lib.ListN.{length}
use borrow.Author.Rules.{rules}
use borrow.Author.Tests.{ne_eqb}
use Rattle.terms.specs.declared.Family.{Family}
use Rattle.terms.specs.declared.Family.TheVariants.{TwoRounds, OneRound}
use Rattle.terms.specs.Counting.{bit}
use Rattle.ring_spec.specs.Rounds.{Round, Plant, most_rounds, ends_phase, after_round, ring_after, ends_after}
use Rattle.ring_spec.specs.Agreed.{agreed_on, is_agreed}
use Rattle.run_spec.specs.RunFile.{File, Setup, unread, rounds_given, RecordKind, start, round, plant, listeners, strikes, allowed_when, is_first, is_bare, is_allowed, head_count_in, limit_in, struck_in, round_fault, listener_count_in, listeners_in, strikes_fault, last_pair, plant_fault, record_fault, then_played, with_record, stopped, with_part, feed, read_file, ring_from, ends_from}
use Rattle.run_spec.proofs.Reached.{length_then}
use Rattle.run_state.specs.declared.Player.{Player}
use Rattle.run_state.specs.Changes.{fresh_player, halted, with_round_given, pair_in, with_pair_planted, with_listeners_given, with_strikes_given}
use Rattle.run_state.specs.Places.{first_of, bare_of}
use Rattle.run_state.specs.State.{ring_before, agreed_before, PlayerOf}
use Rattle.run_state.specs.Counts.{CountsOf, counts_then, counts_played}
use Rattle.run_state.proofs.Counts.{none_counted, round_counted}

most_of : (K : Family) → most_rounds K ≤ most_rounds TwoRounds
most_of TwoRounds = omega arith
most_of OneRound = omega arith

-- at the start the ring has not agreed, whatever the number of listeners
not_agreed : (S : Setup) (m k : ℕ) (ws : List Round) → length ws ≡ 0
    → is_agreed (agreed_on S.n k (ends_from S ws)) ≡ is_agreed (agreed_on S.n m (ends_from S ws))
unfolding ends_after agreed_on
not_agreed S m k [] e = refl
not_agreed S m k (w ∷ ws) e = absurd (omega arith)

pub unread_tells : PlayerOf (fresh_player false TwoRounds 0 0) (read_file [])
unfolding feed unread ring_after ends_after agreed_on
unread_tells = let counts = none_counted TwoRounds in search rules

pub start_tells : (K : Family) (F : File) (s : List ℕ) → PlayerOf (fresh_player true K (head_count_in s) (limit_in s)) (with_record (start K) F s)
unfolding ring_after ends_after agreed_on
start_tells K F s = let counts = none_counted K in search rules

module _ {F : File} {p : Player} (T : PlayerOf p F) where
  -- ---- what it tells next

  pub part_tells : (s : List ℕ) (have : ℕ) → PlayerOf (halted p have p.fault) (with_part F s)
  part_tells s have = search rules

  pub stop_tells : (c : ℕ) → PlayerOf (halted p 0 c) (stopped F c)
  stop_tells c = search rules

  -- who was struck before the round that a record gives
  round_before : (s : List ℕ) → (ring_before (with_record round F s)).before ≡ cond p.pending p.struck p.before
  unfolding ring_after after_round
  round_before s = rw (← T.pending, ← T.struck, ← T.before) (go F.rounds.pending)
    where
      go : (b : Bool) → (ring_from F.setup (then_played b F.rounds.played F.rounds.last)).before ≡ cond b F.rounds.last.struck (ring_before F).before
      go true = refl
      go false = refl

  -- and the counts when the round that was pending is played
  round_since : (s : List ℕ) → CountsOf F.setup.family (with_record round F s).rounds.played (counts_played p)
  round_since s = rw (← T.pending, ← T.family, ← T.given, ← T.struck) (go F.rounds.pending refl)
    where
      go : (b : Bool) → F.rounds.pending ≡ b
          → CountsOf F.setup.family (then_played b F.rounds.played F.rounds.last)
          (cond b (counts_then (ends_phase F.setup.family (length F.rounds.played + bit b)) F.rounds.last.struck p.since) p.since)
      go true e =
          let z : length F.rounds.played + 1 ≡ suc (length F.rounds.played) = omega arith in
          rw z (round_counted F.setup.family F.rounds.played F.rounds.last p.since T.since)
      go false e = T.since

  pub round_tells : (s : List ℕ) {b : Bool} → rounds_given F < most_rounds F.setup.family → is_agreed (agreed_before (with_record round F s)) ≡ b
      → PlayerOf (with_round_given p (struck_in s) b) (with_record round F s)
  round_tells s more agreed =
      record {
        begun = T.begun;
        family = T.family;
        n = T.n;
        f = T.f;
        listeners = T.listeners;
        given = omega (arith, most_of F.setup.family, length_then F.rounds.pending F.rounds.played F.rounds.last, T.given);
        pending = refl;
        before = round_before s;
        struck = refl;
        amended = refl;
        pair = refl;
        fault = refl;
        agreed = agreed;
        since = round_since s;
      }

  pub plant_tells : (s : List ℕ) → PlayerOf (with_pair_planted p (pair_in s)) (with_record plant F s)
  plant_tells s = search rules

  -- before the first round, so that no end but the start is there
  pub listeners_tells : (s : List ℕ) → length F.rounds.played ≡ 0 → PlayerOf (with_listeners_given p (listener_count_in s)) (with_record listeners F s)
  listeners_tells s none =
      let agreed = not_agreed F.setup F.setup.listeners (listener_count_in s) F.rounds.played none ∙ T.agreed in
      search rules

  -- of a round whose struck listeners were not told, the marks are those of heads
  pub strikes_tells : (s : List ℕ) → F.rounds.last.struck < 4294967296 → PlayerOf (with_strikes_given p (listeners_in s)) (with_record strikes F s)
  strikes_tells s small =
      record {
        begun = T.begun;
        family = T.family;
        n = T.n;
        f = T.f;
        listeners = T.listeners;
        given = T.given;
        pending = T.pending;
        before = T.before;
        struck = omega (arith, T.struck);
        amended = refl;
        pair = T.pair;
        fault = refl;
        agreed = T.agreed;
        since = T.since;
      }

  -- ---- what it tells of a record

  pub first_as : is_first F ≡ first_of p
  first_as = rw (T.begun, T.given, T.listeners)

  pub bare_as : is_bare F.rounds ≡ bare_of p
  bare_as = rw (T.pending, T.amended, ← T.pair, no_plants F.rounds.last.plants)
    where
      no_plants : (xs : List Plant) → eqb (length xs) 0 ≡ not (last_pair xs).some
      no_plants [] = refl
      no_plants (x ∷ xs) = ne_eqb (length (x ∷ xs)) 0 (omega arith)

  pub allowed_as : (K : RecordKind) (len : ℕ) → is_allowed K F len ≡ allowed_when K p.begun (first_of p) p.pending (bare_of p) len
  allowed_as K len = rw (first_as, bare_as, T.begun, T.pending)

  pub round_fault_as : (s : List ℕ) → record_fault round F s ≡ round_fault p.family p.n p.f p.given s
  round_fault_as s = rw (T.family, T.n, T.f, T.given)

  pub plant_fault_as : (s : List ℕ) → record_fault plant F s ≡ plant_fault p.n p.listeners p.struck p.pair s
  plant_fault_as s = rw (T.n, T.listeners, T.struck, T.pair)

  pub strikes_fault_as : (s : List ℕ) → record_fault strikes F s ≡ strikes_fault p.listeners s
  strikes_fault_as s = rw T.listeners
