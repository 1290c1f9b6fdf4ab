-- What holds of every file read, wherever it stops: the size is accepted, the first positions are in range, at most f heads are struck in each round, no head
-- and no listener is marked that does not exist, bytes are planted from struck heads to receivers that are not struck, and no round is given after the last of
-- phase 65,535. Each record is checked for that before it changes anything.
use mathlib.Core.Path.{◌≡◌, refl, ap, sym, ◌∙◌}
use mathlib.Core.Bool.{Bool, true, false, not, ◌&&◌, ◌||◌, true≢false}
use mathlib.Core.List.{List, [], ◌∷◌}
use Prim.Native.Nat.{ℕ, zero, suc, ◌+◌, ◌*◌, ◌/◌, ◌%◌, ◌-◌, ◌^◌, ◌≤◌, ◌<◌}
use native.Mathlib.Omega.{arith}
use native.Mathlib.Nat.{pow-le-pow_right}
use lib.Dec.{ltb, leb, eqb}
use lib.Pow.{pow_pos}
use lib.ListN.{length}
use lib.IntN.{ℤ}
use borrow.Author.Tests.{leb-true, ltb-true, ltb-false, leb-false, not-true}
use Rattle.terms.specs.Sizes.{is_count, is_limit}
use Rattle.terms.proofs.Sizes.{size_passed}
use Rattle.terms.specs.declared.Family.{Family}
use Rattle.terms.specs.Positions.{is_position}
use Rattle.marks.specs.Marks.{bit_of, marks_below}
use Rattle.marks.proofs.Marks.{bit_above}
use Rattle.marks.proofs.Words.{bit_low, word_low, word_high}
use Rattle.terms.specs.Counting.{Each, bit, AtMost}
use Rattle.terms.proofs.Sums.{each_more, sum_same}
use Rattle.terms.proofs.Booleans.{and_both}
use Rattle.head_spec.proofs.Proper.{Sized, both_passed, sized_by}
use Rattle.ring_spec.specs.Rounds.{Plant, Round, is_receiver, most_rounds}
use Rattle.ring_spec.specs.Converges.{FewStruckIn}
use Rattle.run_spec.specs.RunFile.{File, rounds_given, RecordKind, start, round, plant, listeners, strikes, other, length_in, kind_in, is_allowed, is_first, is_bare, head_count_in, limit_in, position_in, positions_fit, struck_in, few_marks, listener_count_in, listeners_in, sender_in, receiver_in, last_pair, pair_fits, record_fault, then_played, plant_in, with_record, unread, read_file}
pub use Rattle.run_spec.proofs.Bytes.{length_then}
use Rattle.run_spec.proofs.Bytes.{byte_by_byte, number_some, first_begun, bare_pending}

-- ---- a round of n heads and m listeners

-- no head's mark at n or above, and no mark for a listener that does not exist
pub record MarksFit (n m struck : ℕ) : Type 0 where
  pub heads : struck % 4294967296 < 2 ^ n
  pub listeners : struck / 4294967296 < 2 ^ m

-- bytes planted from a struck head to a head or a listener that is not struck
pub record PlantFits (n m struck : ℕ) (x : Plant) : Type 0 where
  pub sends : x.from < n
  pub hears : is_receiver n m x.to ≡ true
  pub from_struck : bit_of struck x.from ≡ true
  pub to_unstruck : bit_of struck x.to ≡ false

abbrev pub PlantsFit : ℕ → ℕ → ℕ → List Plant → Type 0
PlantsFit n m struck [] = Unit {0}
PlantsFit n m struck (x ∷ xs) = PlantFits n m struck x × PlantsFit n m struck xs

-- the marks of listeners are told, if there are any
pub record RoundFits (n m f : ℕ) (w : Round) : Type 0 where
  pub few : AtMost f n (bit_of w.struck)
  pub marks : MarksFit n m w.struck
  pub untold : w.amended ≡ false → w.struck < 4294967296
  pub plants : PlantsFit n m w.struck w.plants

abbrev pub AllFit : ℕ → ℕ → ℕ → List Round → Type 0
AllFit n m f [] = Unit {0}
AllFit n m f (w ∷ ws) = RoundFits n m f w × AllFit n m f ws

pub few_struck_in : (n m f : ℕ) (ws : List Round) → AllFit n m f ws → FewStruckIn n f ws
few_struck_in n m f [] A = tt
few_struck_in n m f (w ∷ ws) A = (A.0.few, few_struck_in n m f ws A.1)

-- ---- of a start that was accepted, and the rounds after it

pub record TakenSo (K : Family) (n m f : ℕ) (first : ℕ → ℤ) (played : List Round) (pending : Bool) (last : Round) : Type 0 where
  pub size : Sized K n f
  pub listeners : m ≤ 16
  pub ranges : Each n (λ i. is_position (first i) ≡ true)
  pub rounds : AllFit n m f played
  pub waiting : pending ≡ true → RoundFits n m f last
  pub count : length played + bit pending ≤ most_rounds K

abbrev pub Reached : File → Type 0
Reached F = TakenSo F.setup.family F.setup.n F.setup.listeners F.setup.f F.setup.first F.rounds.played F.rounds.pending F.rounds.last

-- before a start there is nothing to hold
abbrev Good : File → ℕ → Type 0
Good F k = F.setup.begun ≡ true → Reached F

-- the rounds, with the pending one played
pub within_then : (n m f : ℕ) (b : Bool) (ws : List Round) (w : Round) → AllFit n m f ws → (b ≡ true → RoundFits n m f w) → AllFit n m f (then_played b ws w)
within_then n m f true ws w h k = (k refl, h)
within_then n m f false ws w h k = h

-- ---- each record

positions_fit_lem : (s : List ℕ) (n : ℕ) → positions_fit s n ≡ true → Each n (λ i. is_position (position_in s i) ≡ true)
unfolding positions_fit
positions_fit_lem s zero h = λ i l. absurd (omega arith)
positions_fit_lem s (suc n) h = let (before, now) = and_both (positions_fit s n) (is_position (position_in s n)) h in each_more (positions_fit_lem s n before) now

-- a word of heads alone
head_marks : (n m a : ℕ) → n ≤ 32 → a < 2 ^ n → MarksFit n m a
head_marks n m a most l =
    let h : a < 4294967296 = omega (arith, pow-le-pow_right {n = 2} (omega arith) {i = n} {j = 32} most) in
    let low : a % 4294967296 ≡ a = omega arith in
    let high : a / 4294967296 ≡ 0 = omega arith in
    record { heads = rw low l; listeners = rw high (pow_pos m) }

-- with those of listeners
module _ (n m f a b : ℕ) (most : n ≤ 32) (small : a < 4294967296) where
  abbrev both : ℕ
  both = a + 4294967296 * b

  both_marks : MarksFit n m a → b < 2 ^ m → MarksFit n m both
  both_marks M l =
      let low : both % 4294967296 ≡ a % 4294967296 = omega arith in
      let high : both / 4294967296 ≡ b = omega arith in
      record { heads = rw low M.heads; listeners = rw high l }

  both_few : AtMost f n (bit_of a) → AtMost f n (bit_of both)
  both_few few = omega (arith, sum_same n (λ j. bit (bit_of both j)) (λ j. bit (bit_of a j)) (λ j l. ap bit (bit_low a b 32 j (omega arith))))

module _ (F : File) (G : F.setup.begun ≡ true → Reached F) where
  abbrev n : ℕ
  n = F.setup.n

  abbrev m : ℕ
  m = F.setup.listeners

  -- the size and the positions of a start
  start_fits : (K : Family) (s : List ℕ) → record_fault (start K) F s ≡ 0
      → let n = head_count_in s in (is_count n ≡ true) × (is_limit K n (limit_in s) ≡ true) × (positions_fit s n ≡ true)
  start_fits K s e =
      let n = head_count_in s in
      let (whole, same, size) = both_passed (eqb (length s) (6 + 4 * n)) true 12 0 e in
      let (count, limit, rest) = size_passed K n (limit_in s) _ size in
      let (fit, also, done) = both_passed (positions_fit s n) true 3 0 rest in
      (count, limit, fit)

  some_rounds : (K : Family) → 0 ≤ most_rounds K
  some_rounds K = omega arith

  good_start : (K : Family) (s : List ℕ) → record_fault (start K) F s ≡ 0 → Reached (with_record (start K) F s)
  good_start K s e =
      let (count, limit, fit) = start_fits K s e in
      record {
        size = sized_by K (head_count_in s) (limit_in s) count limit;
        listeners = omega arith;
        ranges = positions_fit_lem s (head_count_in s) fit;
        rounds = tt;
        waiting = λ w. absurd (true≢false (sym w));
        count = some_rounds K;
      }

  good_round : (s : List ℕ) → record_fault round F s ≡ 0 → Reached F → Reached (with_record round F s)
  unfolding few_marks marks_below
  good_round s e I =
      let (fits, more, done) = both_passed (few_marks F.setup.n F.setup.f (struck_in s)) _ 13 25 e in
      let k : rounds_given F < most_rounds F.setup.family = ltb-true (rounds_given F) _ more in
      let (below, few) = and_both (marks_below (struck_in s) n) _ fits in
      let l : struck_in s < 2 ^ n = ltb-true (struck_in s) (2 ^ n) below in
      record {
        size = I.size;
        listeners = I.listeners;
        ranges = I.ranges;
        rounds = within_then n m F.setup.f F.rounds.pending F.rounds.played F.rounds.last I.rounds I.waiting;
        waiting =
            λ w. record {
              few = leb-true _ F.setup.f few;
              marks = head_marks n m (struck_in s) I.size.most l;
              untold = λ t. omega (arith, pow-le-pow_right {n = 2} (omega arith) {i = n} {j = 32} I.size.most);
              plants = tt;
            };
        count = omega (arith, length_then F.rounds.pending F.rounds.played F.rounds.last);
      }

  -- another pending round in place of the last
  with_last : (w : Round) → Reached F → RoundFits n m F.setup.f w
      → TakenSo F.setup.family n m F.setup.f F.setup.first F.rounds.played F.rounds.pending w
  with_last w I fits =
      record { size = I.size; listeners = I.listeners; ranges = I.ranges; rounds = I.rounds; waiting = λ p. fits; count = I.count }

  good_plant : (s : List ℕ) → F.rounds.pending ≡ true → record_fault plant F s ≡ 0 → Reached F → Reached (with_record plant F s)
  unfolding pair_fits
  good_plant s pending e I =
      let struck = F.rounds.last.struck in
      let k = sender_in s in
      let i = receiver_in s in
      let (fits, none, done) = both_passed (pair_fits n m struck (last_pair F.rounds.last.plants) k i) true 12 0 e in
      let (four, order) = and_both (ltb k n && is_receiver n m i && bit_of struck k && not (bit_of struck i)) _ fits in
      let (three, unstruck) = and_both (ltb k n && is_receiver n m i && bit_of struck k) _ four in
      let (two, is-struck) = and_both (ltb k n && is_receiver n m i) _ three in
      let (sends, hears) = and_both (ltb k n) _ two in
      let A = I.waiting pending in
      let x : PlantFits n m struck (plant_in s) =
      record { sends = ltb-true k n sends; hears = hears; from_struck = is-struck; to_unstruck = not-true (bit_of struck i) unstruck }
      in
      with_last _ I (record { few = A.few; marks = A.marks; untold = A.untold; plants = (x, A.plants) })

  good_listeners : (s : List ℕ) → is_first F ≡ true → record_fault listeners F s ≡ 0 → Reached F → Reached (with_record listeners F s)
  good_listeners s may e I =
      let (begun, none, zero-before) = first_begun F may in
      record {
        size = I.size;
        listeners = (number_some s e).1;
        ranges = I.ranges;
        rounds = none_fit F.rounds.played (omega arith);
        waiting = λ w. absurd (no_round_lem F.rounds.pending w (omega arith));
        count = I.count;
      }
    where
      none_fit : (ws : List Round) → length ws ≡ 0 → AllFit n (listener_count_in s) F.setup.f ws
      none_fit [] z = tt
      none_fit (w ∷ ws) z = absurd (omega arith)

      no_round_lem : (b : Bool) → b ≡ true → bit b ≡ 0 → ⊥
      no_round_lem true w z = omega arith
      no_round_lem false w z = true≢false (sym w)

  good_strikes : (s : List ℕ) → is_bare F.rounds ≡ true → record_fault strikes F s ≡ 0 → Reached F → Reached (with_record strikes F s)
  unfolding marks_below
  good_strikes s may e I =
      let (pending, untold, none) = bare_pending F.rounds may in
      let (below, more, done) = both_passed (marks_below (listeners_in s) m) true 12 0 e in
      let A = I.waiting pending in
      let a = F.rounds.last.struck in
      let b = listeners_in s in
      let small = A.untold untold in
      with_last _ I
      (record {
        few = both_few n m F.setup.f a b I.size.most small A.few;
        marks = both_marks n m F.setup.f a b I.size.most small A.marks (ltb-true b (2 ^ m) below);
        untold = λ t. absurd (true≢false t);
        plants = no_plants _ F.rounds.last.plants none;
      })
    where
      no_plants : (struck : ℕ) (xs : List Plant) → length xs ≡ 0 → PlantsFit n m struck xs
      no_plants struck [] z = tt
      no_plants struck (x ∷ xs) z = absurd (omega arith)

  good_record : (K : RecordKind) (s : List ℕ) → is_allowed K F (length_in s) ≡ true → record_fault K F s ≡ 0 → (with_record K F s).setup.begun ≡ true
      → Reached (with_record K F s)
  good_record (start K) s may e b = good_start K s e
  good_record round s may e b = good_round s e (G b)
  good_record plant s may e b = good_plant s (and_both F.rounds.pending _ may).0 e (G b)
  good_record listeners s may e b = good_listeners s (and_both (is_first F) _ may).0 e (G b)
  good_record strikes s may e b = good_strikes s (and_both (is_bare F.rounds) _ may).0 e (G b)
  good_record other s may e b = absurd (true≢false (sym may))

pub taken : (s : List ℕ) → (read_file s).setup.begun ≡ true → Reached (read_file s)
unfolding unread
taken s =
    byte_by_byte Good
    (λ F k G. G)
    (λ F s k one G. G)
    (λ F c k G. G)
    (λ F s k one may all sound G. good_record F G (kind_in s) s may sound)
    (λ b. absurd (true≢false (sym b)))
    s

-- ---- what the marks mean

-- only receivers are marked
pub only_receivers : (n m struck : ℕ) → MarksFit n m struck → (j : ℕ) → is_receiver n m j ≡ false → bit_of struck j ≡ false
only_receivers n m struck M j = go (ltb j n) (leb 32 j) (ltb j (32 + m)) refl refl refl
  where
    go : (h a b : Bool) → ltb j n ≡ h → leb 32 j ≡ a → ltb j (32 + m) ≡ b → (h || (a && b)) ≡ false → bit_of struck j ≡ false
    go true a b p q r e = absurd (true≢false e)
    go false true true p q r e = absurd (true≢false e)
    go false true false p q r e =
        let l = ltb-false j (32 + m) r in
        word_high struck 32 j (leb-true 32 j q) ∙ bit_above (struck / 4294967296) m (j - 32) M.listeners (omega arith)
    go false false b p q r e = word_low struck 32 j (leb-false 32 j q) ∙ bit_above (struck % 4294967296) n j M.heads (ltb-false j n p)

pub marks_small : (n m struck : ℕ) → MarksFit n m struck → m ≤ 16 → struck < 281474976710656
marks_small n m struck M few = omega (arith, M.listeners, pow-le-pow_right {n = 2} (omega arith) {i = m} {j = 16} few)
