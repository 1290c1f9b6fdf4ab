-- Start and restart make a proper record, of a head as of a listener, since their checks ask for just that, and a record with nothing heard is proper whatever
-- the round.
use Rattle.std.specs.Prelude.{None, Some}
use mathlib.Core.Path.{◌≡◌, refl, sym, ◌∙◌}
use mathlib.Core.Logic.{◌≢◌}
use mathlib.Core.Bool.{Bool, true, false, ◌&&◌, true≢false}
use mathlib.Core.List.{[]}
use Prim.Native.Nat.{ℕ, suc, ◌+◌, ◌*◌, ◌≤◌, ◌<◌}
use native.Mathlib.Omega.{arith}
use lib.Dec.{leb, ltb}
use lib.Pow.{pow_pos}
use lib.ListN.{get_or-replicate}
use lib.IntN.{ℤ}
use borrow.Author.Tests.{leb-true, ltb-true, le-leb, lt-ltb}
use Rattle.terms.specs.Refusals as refusal
use Rattle.terms.specs.Refusals.{check}
use Rattle.terms.specs.Sizes.{is_count, is_limit, check_size, rounds_of, is_listener}
use Rattle.terms.specs.Positions.{is_position, eq_z}
use Rattle.terms.specs.Entry.{Entry}
use Rattle.terms.specs.declared.Family.{Family}
use Rattle.terms.specs.declared.Family.TheVariants.{TwoRounds, OneRound}
use Rattle.terms.specs.declared.Table.{Table}
use Rattle.entries.specs.Entries.{entry_at, zeros, numbers}
use Rattle.entries.specs.Tables.{table_at}
use Rattle.marks.proofs.Marks.{bit_none}
use Rattle.entries.proofs.Entries.{numbers_length}
use Rattle.convergence.specs.Demand3.{AcceptedSize}
use Rattle.convergence.proofs.Support.{not_null}
use Rattle.frame_spec.specs.Said.{collected}
use Rattle.frame_spec.specs.Proper.{ProperTable, Proper}
use Rattle.terms.proofs.Booleans.{and_both}
use Rattle.terms.proofs.Sizes.{size_passed, member_not_listener, listener_small}
use Rattle.frame_spec.proofs.Listing.{numbers_none}
use Rattle.head_spec.specs.declared.Seat.{Seat}
use Rattle.head_spec.specs.Record.{no_entries, no_links, no_lists, opened}
use Rattle.head_spec.specs.Seats.{opening_seat, first_seat, healed_seat}
use Rattle.head_spec.specs.Calls.{start_refusal, started, is_time, restart_refusal, restarted, start_listener_refusal, started_listener, restart_listener_refusal}
pub use Rattle.head_spec.specs.Proper.{Sized, ProperKept, ProperLast, ProperSeat, list_from, ProperLinks, ProperHead}

-- ---- nothing heard

pub no_entries_lem : (n : ℕ) → ProperTable n no_entries
unfolding no_entries numbers eq_z
no_entries_lem n =
    record {
      below = pow_pos n;
      long = numbers_length [] 0;
      fit = λ j l. rw (bit_none j, numbers_none [] 0 j (omega arith));
      none = λ j l. numbers_none [] 0 j (omega arith);
    }

pub no_entry : (k : ℕ) → table_at no_entries k ≡ None
unfolding no_entries entry_at
no_entry k = rw (bit_none k)

no_links_lem : (n : ℕ) → n ≤ 32 → ProperLinks n 0 no_links no_lists
unfolding no_links no_lists no_entries
no_links_lem n size =
    record {
      confessed_below = pow_pos n;
      listed_below = pow_pos n;
      marks_long = refl;
      lists_long = refl;
      tables = λ k l. let m : k < 32 = omega arith in rw (get_or-replicate {A = ℕ} 32 k 0 0 m, get_or-replicate 32 k zeros [] m) (no_entries_lem n);
      unheard = λ k e. (bit_none k, bit_none k);
    }

pub proper_opened : {s : Seat} {t : Table} → ProperSeat s → ProperTable s.n t → (s.round ≡ 0 → (k : ℕ) → table_at t k ≡ None)
    → ProperHead (opened s t)
proper_opened {s} S list blank =
    record { seat = S; heard = pow_pos s.n; list = list; blank = λ r k e. blank r k; links = no_links_lem s.n S.size.most }

-- ---- start and restart

-- two checks in a row that give 0: both tests hold, and what follows gives 0
pub both_passed : {rest : ℕ} (a b : Bool) (m n : ℕ) → check a (suc m) (check b (suc n) rest) ≡ 0 → (a ≡ true) × (b ≡ true) × (rest ≡ 0)
both_passed true true m n e = (refl, refl, e)
both_passed true false m n e = absurd (omega arith)
both_passed false b m n e = absurd (omega arith)

-- the checks of the size pass exactly if it is accepted
limit_accepted : (K : Family) (n f : ℕ) → is_limit K n f ≡ true → AcceptedSize K n f
unfolding is_limit
limit_accepted TwoRounds n f e = leb-true (7 * f + 2) (2 * n) e
limit_accepted OneRound n f e = leb-true (4 * f + 1) n e

accepted_limit : (K : Family) (n f : ℕ) → AcceptedSize K n f → is_limit K n f ≡ true
unfolding is_limit
accepted_limit TwoRounds n f e = le-leb (7 * f + 2) (2 * n) e
accepted_limit OneRound n f e = le-leb (4 * f + 1) n e

pub sized_by : (K : Family) (n f : ℕ) → is_count n ≡ true → is_limit K n f ≡ true → Sized K n f
unfolding is_count
sized_by K n f count limit =
    let (some, most) = and_both (leb 1 n) (leb n 32) count in
    record { some = leb-true 1 n some; most = leb-true n 32 most; limit = limit_accepted K n f limit }

pub sized : (K : Family) (n f : ℕ) {rest : ℕ} → check_size K n f rest ≡ 0 → Sized K n f × (rest ≡ 0)
sized K n f e = let (count, limit, rest) = size_passed K n f _ e in (sized_by K n f count limit, rest)

pub sized_passes : (K : Family) (n f rest : ℕ) → Sized K n f → check_size K n f rest ≡ rest
unfolding is_count
sized_passes K n f rest S = rw (le-leb 1 n S.some, le-leb n 32 S.most, accepted_limit K n f S.limit)

-- a number is a head's or a listener's, so it is small
pub number_small : {s : Seat} → ProperSeat s → s.number ≤ 47
number_small {s} P = go (is_listener s.number) refl
  where
    go : (b : Bool) → is_listener s.number ≡ b → s.number ≤ 47
    go true e = listener_small s.number e
    go false e = omega (arith, P.number e, P.size.most)

-- no phase has more than two rounds
pub rounds_few : (K : Family) → rounds_of K ≤ 2
rounds_few TwoRounds = omega arith
rounds_few OneRound = omega arith

-- a phase begins with round 0
pub first_round : (K : Family) → 0 < rounds_of K
first_round TwoRounds = omega arith
first_round OneRound = omega arith

module _ (K : Family) (n f i : ℕ) where
  -- a head's number is no listener's
  pub started_head : (v : ℤ) → start_refusal K n f i v ≡ 0 → is_listener i ≡ false
  unfolding start_refusal
  started_head v e =
      let (S, rest) = sized K n f e in
      member_not_listener i n (ltb-true i n (both_passed (ltb i n) (is_position v) 2 3 rest).0) S.most

  proper_opening : {p r : ℕ} {healed : Bool} {e : Entry} → Sized K n f → (is_listener i ≡ false → i < n) → 1 ≤ p → p ≤ 65535 → r < rounds_of K
      → Proper n (collected e) → (is_listener i ≡ false → r ≡ 0 → healed ≡ false → e ≢ None) → ProperSeat (opening_seat K n f i p r healed e)
  proper_opening S number first last round position holds =
      record {
        size = S;
        number = number;
        from_first = first;
        to_last = last;
        round = round;
        position = position;
        holds = holds;
        kept = tt;
        since = omega arith;
      }

  proper_first : (v : ℤ) → start_refusal K n f i v ≡ 0 → ProperSeat (first_seat K n f i (Some v))
  unfolding start_refusal
  proper_first v e =
      let (S, rest) = sized K n f e in
      let (number, range, done) = both_passed (ltb i n) (is_position v) 2 3 rest in
      proper_opening S (λ o. ltb-true i n number) (omega arith) (omega arith) (first_round K) range (λ o r h q. not_null q refl)

  pub proper_started : (v : ℤ) → start_refusal K n f i v ≡ 0 → ProperHead (started K n f i v)
  unfolding started
  proper_started v e = proper_opened (proper_first v e) (no_entries_lem n) (λ r. no_entry)

  -- what is asked of a number that is no listener's is not asked of a listener's
  exempt : {A : Type 0} → is_listener i ≡ true → is_listener i ≡ false → A
  exempt e o = absurd (true≢false (sym e ∙ o))

  proper_listener : start_listener_refusal K n f i ≡ 0 → ProperSeat (first_seat K n f i None)
  unfolding start_listener_refusal
  proper_listener e =
      let (S, rest) = sized K n f e in
      let (listens, none, done) = both_passed (is_listener i) true 2 0 rest in
      proper_opening S (exempt listens) (omega arith) (omega arith) (first_round K) tt (exempt listens)

  pub proper_started_listener : start_listener_refusal K n f i ≡ 0 → ProperHead (started_listener K n f i)
  unfolding started_listener
  proper_started_listener e = proper_opened (proper_listener e) (no_entries_lem n) (λ r. no_entry)

  -- b: the test of the number
  proper_healed : (b : Bool) (p r : ℕ) → (b ≡ true → is_listener i ≡ false → i < n)
      → check_size K n f (check b refusal.number_too_high (check (is_time K p r) refusal.phase_out_of_range 0)) ≡ 0 → ProperSeat (healed_seat K n f i p r)
  proper_healed b p r number e =
      let (S, rest) = sized K n f e in
      let (member, times, done) = both_passed b (is_time K p r) 2 4 rest in
      let (phase, round) = and_both (leb 1 p && leb p 65535) (ltb r (rounds_of K)) times in
      let (first, last) = and_both (leb 1 p) (leb p 65535) phase in
      proper_opening S (number member) (leb-true 1 p first) (leb-true p 65535 last) (ltb-true r (rounds_of K) round) tt (λ o z h q. true≢false h)

  pub proper_restarted : (p r : ℕ) → restart_refusal K n f i p r ≡ 0 → ProperHead (restarted K n f i p r)
  unfolding restarted restart_refusal
  proper_restarted p r e = proper_opened (proper_healed (ltb i n) p r (λ t o. ltb-true i n t) e) (no_entries_lem n) (λ z. no_entry)

  pub proper_restarted_listener : (p r : ℕ) → restart_listener_refusal K n f i p r ≡ 0 → ProperHead (restarted K n f i p r)
  unfolding restarted restart_listener_refusal
  proper_restarted_listener p r e = proper_opened (proper_healed (is_listener i) p r exempt e) (no_entries_lem n) (λ z. no_entry)

  -- in a ring of an accepted size no start at a position is refused, and no restart in phases 1 to 65,535
  module _ (S : Sized K n f) (l : i < n) where
    pub start_accepted : (v : ℤ) → is_position v ≡ true → start_refusal K n f i v ≡ 0
    unfolding start_refusal
    start_accepted v h = sized_passes K n f _ S ∙ rw (lt-ltb i n l, h)

    pub restart_accepted : (p r : ℕ) → 1 ≤ p → p ≤ 65535 → r < rounds_of K → restart_refusal K n f i p r ≡ 0
    unfolding restart_refusal
    restart_accepted p r a b c = sized_passes K n f _ S ∙ rw (lt-ltb i n l, le-leb 1 p a, le-leb p 65535 b, lt-ltb r (rounds_of K) c)

  -- nor any of a listener
  module _ (S : Sized K n f) (listens : is_listener i ≡ true) where
    pub start_listener_accepted : start_listener_refusal K n f i ≡ 0
    unfolding start_listener_refusal
    start_listener_accepted = sized_passes K n f _ S ∙ rw listens

    pub restart_listener_accepted : (p r : ℕ) → 1 ≤ p → p ≤ 65535 → r < rounds_of K → restart_listener_refusal K n f i p r ≡ 0
    unfolding restart_listener_refusal
    restart_listener_accepted p r a b c = sized_passes K n f _ S ∙ rw (listens, le-leb 1 p a, le-leb p 65535 b, lt-ltb r (rounds_of K) c)
