-- The listing as it comes. However the bytes are cut, the file read is the same; a start shows line 0, a round record shows the line of the round
-- that waited, if that ended a phase, and no other record shows anything. At the end the last round's line and the verdict are left.
use mathlib.Core.Path.{◌≡◌, refl, ap, sym}
use mathlib.Core.Bool.{Bool, true, false, cond, ◌&&◌}
use mathlib.Core.List.{List, [], ◌∷◌, ◌++◌, append_assoc, append-nil}
use Prim.Native.Nat.{ℕ, zero, suc, ◌+◌, ◌*◌, ◌/◌, ◌%◌, ◌^◌}
use native.Mathlib.Omega.{arith}
use native.Mathlib.Nat.{pow-succ', mul_assoc}
use lib.Dec.{eqb}
use lib.ListN.{length}
use lib.IntN.{ℤ}
use borrow.Author.Tests.{eqb-true}
use Rattle.terms.specs.declared.Family.{Family}
use Rattle.terms.specs.Sizes.{ends_with}
use Rattle.terms.proofs.Booleans.{and_both}
use Rattle.convergence.specs.Phases.{spread}
use Rattle.convergence.proofs.Same.{SameEnd, same_bounds}
use Rattle.ring_spec.specs.Rounds.{Round, Ring, after_round, PhaseEnd, phase_end, with_end, receivers, as_end, first_end, ring_after, ends_after}
use Rattle.ring_spec.proofs.Receivers.{first_out_as}
use Rattle.ring_spec.proofs.Counts.{counted}
use Rattle.run_spec.specs.RunFile.{File, rounds_given, start, round, plant, listeners, strikes, is_first, listener_count_in, head_count_in, limit_in, position_in, then_played, with_record, stopped, with_part, step, feed, ending, rounds_played, ends_played, ring_from, ends_from, all_rounds}
use Rattle.texts.specs.Numbers.{hex}
use Rattle.run_spec.specs.Listing.{title, line, lines, verdict, shown, listing_of}

-- ---- bytes in pieces

pub feed_append : (F : File) (a b : List ℕ) → feed F (a ++ b) ≡ feed (feed F a) b
unfolding feed
feed_append F [] b = refl
feed_append F (x ∷ a) b = feed_append (step F x) a b

-- ---- the line that a round brings

-- of the last round of a phase, that of its end
abbrev line_in : Bool → ℕ → ℕ → ℕ → PhaseEnd → List ℕ
line_in false n m p e = []
line_in true n m p e = line n m p e

-- round w of a ring R with m listeners
abbrev pub round_line : Family → ℕ → ℕ → ℕ → Ring → Round → List ℕ
round_line K n m f R w = line_in (ends_with K R.round) n m R.phase (phase_end K R.before w.struck (after_round K n f R w).heads)

pub lines_next : (K : Family) (n m f : ℕ) (v : ℕ → ℤ) (ws : List Round) (w : Round)
    → lines n m (ends_after K n f v (w ∷ ws)) ≡ lines n m (ends_after K n f v ws) ++ round_line K n m f (ring_after K n f v ws) w
unfolding ends_after ring_after lines
lines_next K n m f v ws w = go (ends_with K (ring_after K n f v ws).round) _
  where
    go : (r : Bool) (e : PhaseEnd)
        → lines n m (with_end r e (ends_after K n f v ws)) ≡ lines n m (ends_after K n f v ws) ++ line_in r n m (ring_after K n f v ws).phase e
    go false e = sym (append-nil _)
    go true e = ap (λ (p : ℕ). lines n m (ends_after K n f v ws) ++ line n m p e) (counted K n f v ws).counts

-- the line of the start is the same however many listeners there are
pub first_line : (K : Family) (n m k f : ℕ) (v : ℕ → ℤ) → line n m 0 (first_end K n f v) ≡ line n k 0 (first_end K n f v)
unfolding line spread
first_line K n m k f v =
    let (low, high) = same_bounds (same n m k f v) in
    rw (low, high)
  where
    same : (n m k f : ℕ) (v : ℕ → ℤ) → SameEnd receivers (as_end n m (first_end K n f v)) (as_end n k (first_end K n f v))
    same n m k f v = record { struck = first_out_as n m k; at = λ i l q. refl }

-- the last k digits of a number
last_digits : (k a b : ℕ) → hex k (a + 16 ^ k * b) ≡ hex k a
unfolding hex
last_digits zero a b = refl
last_digits (suc k) a b =
    let up : 16 ^ suc k * b ≡ 16 * (16 ^ k * b) = rw (pow-succ' 16 k) (mul_assoc 16 (16 ^ k) b) in
    let low : (a + 16 ^ suc k * b) % 16 ≡ a % 16 = rw up (omega arith) in
    let rest : (a + 16 ^ suc k * b) / 16 ≡ a / 16 + 16 ^ k * b = rw up (omega arith) in
    rw (low, rest, last_digits k (a / 16) b)

-- a column shows the marks of heads alone: b stands for those of listeners
pub column_heads : (a b : ℕ) → hex 8 (a + 4294967296 * b) ≡ hex 8 a
column_heads a b = last_digits 8 a b

-- ---- the file so far

-- the ring of the rounds played
abbrev pub ring_of : File → Ring
ring_of F = ring_from F.setup F.rounds.played

-- what the pending round will show
abbrev pub waiting_line : File → List ℕ
waiting_line F = cond F.setup.begun (cond F.rounds.pending (round_line F.setup.family F.setup.n F.setup.listeners F.setup.f (ring_of F) F.rounds.last) []) []

module _ (F : File) where
  abbrev shown_lines : List PhaseEnd → List ℕ
  shown_lines es = lines F.setup.n F.setup.listeners es

  -- with the pending round played
  with_last : (b : Bool)
      → shown_lines (ends_from F.setup (then_played b F.rounds.played F.rounds.last))
      ≡ shown_lines (ends_from F.setup F.rounds.played) ++ cond b (round_line F.setup.family F.setup.n F.setup.listeners F.setup.f (ring_of F) F.rounds.last) []
  with_last true = lines_next F.setup.family F.setup.n F.setup.listeners F.setup.f F.setup.first F.rounds.played F.rounds.last
  with_last false = sym (append-nil _)

  -- the text after a start or not, then a line more
  shown_more : (b : Bool) (es es' : List PhaseEnd) (more : List ℕ) → shown_lines es' ≡ shown_lines es ++ more
      → title ++ shown_lines (cond b es' []) ≡ title ++ shown_lines (cond b es []) ++ cond b more []
  unfolding lines
  shown_more true es es' more e = rw e (sym (append_assoc title (shown_lines es) more))
  shown_more false es es' more e = sym (append-nil _)

  -- ---- what each record shows

  pub round_shows : (s : List ℕ) → shown (with_record round F s) ≡ shown F ++ waiting_line F
  unfolding shown
  round_shows s = shown_more F.setup.begun _ _ _ (with_last F.rounds.pending)

  pub start_shows : (K : Family) (s : List ℕ) → F.setup.begun ≡ false
      → shown (with_record (start K) F s)
      ≡ shown F ++ line (head_count_in s) 0 0 (first_end K (head_count_in s) (limit_in s) (position_in s))
  unfolding shown lines ends_after
  start_shows K s e = rw (e, append-nil)

  -- the number of listeners changes no line: it comes just after the start
  pub listeners_shows : (s : List ℕ) → is_first F ≡ true → shown (with_record listeners F s) ≡ shown F
  unfolding shown lines ends_after
  listeners_shows s e =
      let (front, none) = and_both (F.setup.begun && eqb (rounds_given F) 0) _ e in
      let (begun, first) = and_both F.setup.begun _ front in
      rw (
        begun,
        none_played F.rounds.played (omega (arith, eqb-true (rounds_given F) 0 first)),
        first_line F.setup.family F.setup.n (listener_count_in s) F.setup.listeners F.setup.f F.setup.first,
      )
    where
      none_played : (ws : List Round) → length ws ≡ 0 → ws ≡ []
      none_played [] e = refl
      none_played (w ∷ ws) e = absurd (omega arith)

  pub strikes_shows : (s : List ℕ) → shown (with_record strikes F s) ≡ shown F
  unfolding shown
  strikes_shows s = refl

  pub plant_shows : (s : List ℕ) → shown (with_record plant F s) ≡ shown F
  unfolding shown
  plant_shows s = refl

  pub part_shows : (s : List ℕ) → shown (with_part F s) ≡ shown F
  unfolding shown
  part_shows s = refl

  pub stop_shows : (c : ℕ) → shown (stopped F c) ≡ shown F
  unfolding shown
  stop_shows c = refl

  -- the ring that an accepted round record leaves: the pending round is played
  pub round_plays : (s : List ℕ) → ring_of (with_record round F s)
      ≡ cond F.rounds.pending (after_round F.setup.family F.setup.n F.setup.f (ring_of F) F.rounds.last) (ring_of F)
  unfolding ring_after
  round_plays s = go F.rounds.pending
    where
      go : (b : Bool)
          → ring_from F.setup (then_played b F.rounds.played F.rounds.last)
          ≡ cond b (after_round F.setup.family F.setup.n F.setup.f (ring_of F) F.rounds.last) (ring_of F)
      go true = refl
      go false = refl

  -- ---- the whole listing

  -- what is left to show at the end: the pending round's line, if the file ends without fault
  abbrev pub last_line : List ℕ
  last_line = cond (eqb (ending F) 0) (waiting_line F) []

  pub listing_parts : listing_of F ≡ shown F ++ last_line ++ verdict (ending F)
  unfolding listing_of shown ends_played rounds_played
  listing_parts = ap (λ (l : List ℕ). l ++ verdict (ending F)) (go (eqb (ending F) 0))
    where
      ends : List Round → List PhaseEnd
      ends ws = cond F.setup.begun (ends_from F.setup ws) []

      go : (b : Bool)
          → title ++ shown_lines (ends (cond b (all_rounds F.rounds) F.rounds.played))
          ≡ title ++ shown_lines (ends F.rounds.played) ++ cond b (waiting_line F) []
      go true = shown_more F.setup.begun _ _ _ (with_last F.rounds.pending)
      go false = sym (append-nil _)
