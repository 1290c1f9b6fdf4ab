-- What holds of every file read, by what a byte does to it: after a fault nothing, or it is one byte more of a record, or it stops the file, or it makes a
-- record whole that is accepted. So no round is pending before a start, and the bytes read are at least those of the records that were accepted.
use mathlib.Core.Path.{◌≡◌, refl, sym, subst, ◌∙◌}
use mathlib.Core.Bool.{Bool, true, false, not, cond, ◌&&◌, true≢false}
use mathlib.Core.List.{List, [], ◌∷◌, ◌++◌}
use Prim.Native.Nat.{ℕ, zero, suc, ◌+◌, ◌*◌, ◌≤◌}
use native.Mathlib.Omega.{arith}
use native.Mathlib.Decide.{dec_le}
use native.Mathlib.Nat.{add-zero, zero-add}
use lib.Dec.{ltb, leb, eqb}
use lib.ListN.{length, length-append}
use borrow.Author.Tests.{leb-true, eqb-true, ltb-false, eq-eqb, ne_eqb, not-true, not-false}
use Rattle.terms.specs.Refusals.{leaves, unless_refused}
use Rattle.terms.specs.Refusals as refusal
use Rattle.terms.specs.Sizes.{is_count}
use Rattle.terms.specs.declared.Family.{Family}
use Rattle.terms.proofs.Booleans.{and_both}
use Rattle.terms.specs.Counting.{bit}
use Rattle.head_spec.proofs.Proper.{both_passed}
use Rattle.ring_spec.specs.Rounds.{Plant, Round}
use Rattle.run_spec.specs.RunFile.{File, unread, Rounds, rounds_given, listeners_fault, RecordKind, start, round, plant, listeners, strikes, other, length_in, kind_in, is_allowed, is_first, is_bare, head_count_in, listener_count_in, last_pair, then_played, record_fault, with_record, stopped, judged, with_part, read_on, step, feed, read_file, records_of, accepted}
use Rattle.run_spec.proofs.Whole.{stands, RoundsFit, kept_on, kept_read, kept}
use Rattle.run_spec.proofs.Streaming.{feed_append}

-- P: of a file and the number of bytes that led to it
module _ (P : File → ℕ → Type 0)
    (rests : (F : File) (k : ℕ) → P F k → P F (suc k))
    (parts : (F : File) (s : List ℕ) (k : ℕ) → length s ≡ suc (length F.part) → P F k → P (with_part F s) (suc k))
    (stops : (F : File) (c k : ℕ) → P F k → P (stopped F c) (suc k))
    (takes : (F : File) (s : List ℕ) (k : ℕ) → length s ≡ suc (length F.part) → stands F s ≡ true → length s ≡ length_in s
    → record_fault (kind_in s) F s ≡ 0 → P F k → P (with_record (kind_in s) F s) (suc k)) where
  module _ (F : File) (kept : RoundsFit F) (x k : ℕ) (p : P F k) where
    abbrev s : List ℕ
    s = F.part ++ (x ∷ [])

    one : length s ≡ suc (length F.part)
    one = length-append F.part (x ∷ []) ∙ omega arith

    judges : stands F s ≡ true → length s ≡ length_in s → P (judged (kind_in s) F s) (suc k)
    unfolding judged
    judges may all = go (record_fault (kind_in s) F s) refl
      where
        go : (c : ℕ) → record_fault (kind_in s) F s ≡ c → P (unless_refused (stopped F) c (with_record (kind_in s) F s)) (suc k)
        go zero e = takes F s k one may all e p
        go (suc c) e = stops F (suc c) k p

    -- a whole record is allowed
    is_allowed_lem : ltb (length s) 4 ≡ false → (eqb (length s) 4 && not (stands F s)) ≡ false → stands F s ≡ true
    is_allowed_lem long place = go (dec_le 4 (length F.part))
      where
        go : Dec (4 ≤ length F.part) → stands F s ≡ true
        go (yes h) = (kept_on F kept (x ∷ []) h).0
        go (no h) = not-false (stands F s) (rw (eq-eqb (length s) 4 (omega (arith, one, ltb-false (length s) 4 long))) at place)

    reads : P (read_on F s) (suc k)
    unfolding read_on
    reads = go (ltb (length s) 4) (eqb (length s) 4 && not (stands F s)) (eqb (length s) (length_in s)) refl refl refl
      where
        go : (few out all : Bool) → ltb (length s) 4 ≡ few → (eqb (length s) 4 && not (stands F s)) ≡ out → eqb (length s) (length_in s) ≡ all
            → P (cond few (with_part F s) (cond out (stopped F refusal.bad_run_record) (cond all (judged (kind_in s) F s) (with_part F s)))) (suc k)
        go true out all f o a = parts F s k one p
        go false true all f o a = stops F refusal.bad_run_record k p
        go false false true f o a = judges (is_allowed_lem f o) (eqb-true (length s) (length_in s) a)
        go false false false f o a = parts F s k one p

  pub from : (F : File) (xs : List ℕ) (k : ℕ) → RoundsFit F → P F k → P (feed F xs) (k + length xs)
  unfolding feed step
  from F [] k kept p = simp add-zero p
  from F (x ∷ xs) k kept p =
      let (q, h) = go F.fault in
      let e : suc k + length xs ≡ k + length (x ∷ xs) = omega arith in
      subst (λ (m : ℕ). P (feed (step F x) xs) m) e (from (step F x) xs (suc k) q h)
    where
      go : (c : ℕ) → let G = leaves c (read_on F (F.part ++ (x ∷ []))) F in RoundsFit G × P G (suc k)
      go zero = (kept_read F kept x, reads F kept x k p)
      go (suc c) = (kept, rests F k p)

  pub byte_by_byte : P unread 0 → (s : List ℕ) → P (read_file s) (length s)
  unfolding unread
  byte_by_byte p s = rw (zero-add (length s)) at (from unread s 0 (λ h. absurd (omega arith)) p)

-- ---- the bytes that the records took

pub length_then : (b : Bool) (ws : List Round) (w : Round) → length (then_played b ws w) ≡ length ws + bit b
length_then true ws w = omega arith
length_then false ws w = omega arith

pub record Cost (F : File) (k : ℕ) : Type 0 where
  pub begun : F.rounds.pending ≡ true → F.setup.begun ≡ true
  pub part : length F.part ≤ k
  pub records : F.setup.begun ≡ true → 10 + 8 * rounds_given F + length F.part ≤ k

start_long : (K : Family) (F : File) (s : List ℕ) → record_fault (start K) F s ≡ 0 → 10 ≤ length s
unfolding is_count
start_long K F s sound =
    let (whole, count, rest) = both_passed (eqb (length s) (6 + 4 * head_count_in s)) (is_count (head_count_in s)) 12 0 sound in
    let some = leb-true 1 (head_count_in s) (and_both (leb 1 (head_count_in s)) _ count).0 in
    omega (arith, eqb-true (length s) (6 + 4 * head_count_in s) whole)

pub number_some : (s : List ℕ) → listeners_fault s ≡ 0 → (1 ≤ listener_count_in s) × (listener_count_in s ≤ 16)
number_some s sound =
    let (fits, none, done) = both_passed (leb 1 (listener_count_in s) && leb (listener_count_in s) 16) true 12 0 sound in
    let (some, most) = and_both (leb 1 (listener_count_in s)) _ fits in
    (leb-true 1 (listener_count_in s) some, leb-true (listener_count_in s) 16 most)

costs_more : (K : RecordKind) (F : File) (s : List ℕ) (k : ℕ) → length s ≡ suc (length F.part) → is_allowed K F (length_in s) ≡ true → length s ≡ length_in s
    → record_fault K F s ≡ 0 → Cost F k → Cost (with_record K F s) (suc k)
costs_more (start K) F s k one may all sound C =
    record { begun = λ w. refl; part = omega arith; records = λ b. omega (arith, start_long K F s sound, C.part) }
costs_more round F s k one may all sound C =
    let (begun, eight) = and_both F.setup.begun _ may in
    record {
      begun = λ w. begun;
      part = omega arith;
      records = λ b. omega (arith, C.records begun, eqb-true (length_in s) 8 eight, length_then F.rounds.pending F.rounds.played F.rounds.last);
    }
costs_more plant F s k one may all sound C =
    record { begun = C.begun; part = omega arith; records = λ b. omega (arith, C.records b) }
costs_more listeners F s k one may all sound C =
    record { begun = C.begun; part = omega arith; records = λ b. omega (arith, C.records b) }
costs_more strikes F s k one may all sound C =
    record { begun = C.begun; part = omega arith; records = λ b. omega (arith, C.records b) }
costs_more other F s k one may all sound C = absurd (true≢false (sym may))

pub cost : (s : List ℕ) → Cost (read_file s) (length s)
unfolding unread
cost s =
    byte_by_byte Cost
    (λ F k C. record { begun = C.begun; part = omega (arith, C.part); records = λ b. omega (arith, C.records b) })
    (λ F s k one C. record { begun = C.begun; part = omega (arith, C.part); records = λ b. omega (arith, C.records b) })
    (λ F c k C. record { begun = C.begun; part = omega arith; records = λ b. omega (arith, C.records b) })
    (λ F s k one may all sound C. costs_more (kind_in s) F s k one may all sound C)
    (record { begun = λ w. absurd (true≢false (sym w)); part = omega arith; records = λ b. absurd (true≢false (sym b)) })
    s

-- ---- the records accepted

-- just after the start, and just after a round record
pub first_begun : (F : File) → is_first F ≡ true → (F.setup.begun ≡ true) × (rounds_given F ≡ 0) × (F.setup.listeners ≡ 0)
first_begun F e =
    let (front, none) = and_both (F.setup.begun && eqb (rounds_given F) 0) _ e in
    let (begun, first) = and_both F.setup.begun _ front in
    (begun, eqb-true (rounds_given F) 0 first, eqb-true F.setup.listeners 0 none)

pub bare_pending : (R : Rounds) → is_bare R ≡ true → (R.pending ≡ true) × (R.last.amended ≡ false) × (length R.last.plants ≡ 0)
bare_pending R e =
    let (front, none) = and_both (R.pending && not R.last.amended) _ e in
    let (pending, untold) = and_both R.pending _ front in
    (pending, not-true R.last.amended untold, eqb-true (length R.last.plants) 0 none)

-- nothing is planted, by the pair that was last
pub none_planted : (xs : List Plant) → eqb (length xs) 0 ≡ not (last_pair xs).some
none_planted [] = refl
none_planted (x ∷ xs) = ne_eqb (length (x ∷ xs)) 0 (omega arith)

-- each is one more
pub one_accepted : (K : RecordKind) (F : File) (s : List ℕ) (len : ℕ) → is_allowed K F len ≡ true → record_fault K F s ≡ 0
    → (F.rounds.pending ≡ true → F.setup.begun ≡ true) → accepted (with_record K F s) ≡ suc (accepted F)
unfolding accepted records_of
one_accepted (start K) F s len may sound W =
    let none = not-true F.setup.begun (and_both (not F.setup.begun) _ may).0 in
    rw none refl
one_accepted round F s len may sound W = rw (and_both F.setup.begun _ may).0 (omega arith)
one_accepted plant F s len may sound W =
    let pending = (and_both F.rounds.pending _ may).0 in
    rw (W pending, pending) (omega arith)
one_accepted listeners F s len may sound W =
    let (begun, rounds_given, none) = first_begun F (and_both (is_first F) _ may).0 in
    let some = number_some s sound in
    rw (begun, none, ne_eqb (listener_count_in s) 0 (omega arith)) (omega arith)
one_accepted strikes F s len may sound W =
    let (pending, untold, none) = bare_pending F.rounds (and_both (is_bare F.rounds) _ may).0 in
    rw (W pending, pending, untold) (omega arith)
one_accepted other F s len may sound W = absurd (true≢false (sym may))

-- and if none is, a record that was judged has a fault
pub none_accepted : (K : RecordKind) (F : File) (s : List ℕ) (len : ℕ) → is_allowed K F len ≡ true → (F.rounds.pending ≡ true → F.setup.begun ≡ true)
    → accepted (judged K F s) ≡ accepted F → (judged K F s).fault ≡ 0 → ⊥
unfolding judged
none_accepted K F s len may W = go (record_fault K F s) refl
  where
    go : (c : ℕ) → record_fault K F s ≡ c → accepted (unless_refused (stopped F) c (with_record K F s)) ≡ accepted F
        → (unless_refused (stopped F) c (with_record K F s)).fault ≡ 0 → ⊥
    go zero sound e z = omega (arith, one_accepted K F s len may sound W)
    go (suc c) sound e z = omega arith

-- at least m, and no round is pending before a start
record Least (m : ℕ) (F : File) (k : ℕ) : Type 0 where
  begun : F.rounds.pending ≡ true → F.setup.begun ≡ true
  least : m ≤ accepted F

begun_more : (K : RecordKind) (F : File) (s : List ℕ) → is_allowed K F (length_in s) ≡ true → (F.rounds.pending ≡ true → F.setup.begun ≡ true)
    → (with_record K F s).rounds.pending ≡ true → (with_record K F s).setup.begun ≡ true
begun_more (start K) F s may W w = refl
begun_more round F s may W w = (and_both F.setup.begun _ may).0
begun_more plant F s may W w = W w
begun_more listeners F s may W w = W w
begun_more strikes F s may W w = W w
begun_more other F s may W w = W w

least_more : (m : ℕ) (K : RecordKind) (F : File) (s : List ℕ) (k : ℕ) → is_allowed K F (length_in s) ≡ true → record_fault K F s ≡ 0 → Least m F k
    → Least m (with_record K F s) (suc k)
least_more m K F s k may sound L =
    record { begun = begun_more K F s may L.begun; least = omega (arith, one_accepted K F s (length_in s) may sound L.begun, L.least) }

-- by more bytes they do not become fewer
pub more_accepted : (a b : List ℕ) → accepted (read_file a) ≤ accepted (read_file (a ++ b))
unfolding accepted
more_accepted a b =
    let m = accepted (read_file a) in
    rw (feed_append unread a b)
    (from (Least m)
    (λ F k L. record { begun = L.begun; least = L.least })
    (λ F s k one L. record { begun = L.begun; least = L.least })
    (λ F c k L. record { begun = L.begun; least = L.least })
    (λ F s k one may all sound L. least_more m (kind_in s) F s k may sound L)
    (read_file a) b (length a) (kept a) (record { begun = (cost a).begun; least = omega arith })).least
