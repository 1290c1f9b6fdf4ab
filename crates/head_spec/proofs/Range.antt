-- Positions stay in range. A trusted position stands in a list, and what stands in a list that was accepted is in range; so are the lowest and the
-- highest kept, and so is half the sum of two positions. The trim is at most f.
use Rattle.std.specs.Prelude.{None, Some}
use mathlib.Core.Path.{◌≡◌, refl}
use mathlib.Core.Logic.{by_cases}
use mathlib.Core.Bool.{Bool, true, false, cond}
use mathlib.Core.List.{List, [], ◌∷◌}
use Prim.Native.Nat.{ℕ, zero, suc, ◌≤◌, ◌<◌}
use native.Mathlib.Omega.{arith}
use native.Mathlib.Decide.{dec_le}
use borrow.Author.Tests.{le-leb, lt-leb}
use lib.ListN.{get_or}
use lib.IntN.{ℤ, pos, negsuc, ◌+ℤ◌}
use lib.Signed.{le_z, ◌≤ℤ◌}
use denote.Floats.{passes, is_true}
use Rattle.terms.specs.Positions.{is_position, half}
use Rattle.terms.specs.Entry.{Entry}
use Rattle.terms.specs.declared.Family.{Family}
use Rattle.terms.specs.declared.Family.TheVariants.{TwoRounds, OneRound}
use Rattle.terms.specs.declared.Table.{Table}
use Rattle.terms.proofs.Whole.{arithZ, sum_lin, half_lin}
use Rattle.marks.specs.Marks.{bit_of}
use Rattle.entries.specs.Entries.{entry_at, fits}
use Rattle.entries.specs.Tables.{table_at}
use Rattle.terms.specs.Counting.{Each}
use Rattle.convergence.specs.Settling.{place, insert, put, trim, rule_of, ordered, low_kept, high_kept, middle}
use Rattle.convergence.specs.Trust.{nothing, confessed, gave, says_of}
use Rattle.terms.proofs.Sums.{each_last, each_less}
use Rattle.convergence.proofs.Support.{not_null, trusted_in_range}
use Rattle.frame_spec.specs.Proper.{ProperTable}
use Rattle.terms.proofs.Booleans.{and_both}
use Rattle.settle_midpoint.specs.Answers.{kept}
use Rattle.settle_trust.specs.Received.{given_by}
use Rattle.head_spec.specs.declared.Head.{Head}
use Rattle.head_spec.specs.Record.{given, trusted_by, entries_by}
use Rattle.head_spec.proofs.Proper.{ProperKept, list_from, ProperHead}

-- ---- positions in range

between : (v : ℤ) → is_position v ≡ true → (negsuc 999_999 ≤ℤ v) × (v ≤ℤ pos 1_000_000)
unfolding is_position
between v h =
    let (low, high) = and_both (le_z (negsuc 999_999) v) (le_z v (pos 1_000_000)) h in
    (record { le = passes _ low }, record { le = passes _ high })

half_position : (r : ℕ) (a b : ℤ) → r ≤ 1 → is_position a ≡ true → is_position b ≡ true → is_position (half r (a +ℤ b)) ≡ true
unfolding is_position
half_position r a b small h k =
    let (low, high) = go (negsuc 999_999) (pos 1_000_000) (between a h) (between b k) in
    rw (is_true (le_z (negsuc 999_999) (half r (a +ℤ b))) low.le, is_true (le_z (half r (a +ℤ b)) (pos 1_000_000)) high.le)
  where
    go : (m M : ℤ) → (m ≤ℤ a) × (a ≤ℤ M) → (m ≤ℤ b) × (b ≤ℤ M) → (m ≤ℤ half r (a +ℤ b)) × (half r (a +ℤ b) ≤ℤ M)
    go m M x y = omega (arithZ, sum_lin a b, half_lin r (a +ℤ b))

abbrev AllPositions : List ℤ → Type 0
AllPositions [] = Unit {0}
AllPositions (x ∷ xs) = (is_position x ≡ true) × AllPositions xs

insert_positions : (x : ℤ) (l : List ℤ) → is_position x ≡ true → AllPositions l → AllPositions (insert x l)
unfolding insert
insert_positions x [] h a = (h, tt)
insert_positions x (y ∷ ys) h a = go (le_z x y) (insert_positions x ys h a.1)
  where
    go : (b : Bool) → AllPositions (insert x ys) → AllPositions (place b x y ys (insert x ys))
    go true r = (h, a)
    go false r = (a.0, r)

-- each entry is null or in range
abbrev pub InRange : ℕ → (ℕ → Entry) → Type 0
InRange n E = Each n (λ j. (u : ℤ) → E j ≡ Some u → is_position u ≡ true)

ordered_positions : (n : ℕ) (E : ℕ → Entry) → InRange n E → AllPositions (ordered n E)
unfolding ordered
ordered_positions zero E h = tt
ordered_positions (suc n) E h = go (E n) (each_last h) (ordered_positions n E (each_less h))
  where
    go : (x : Entry) → ((u : ℤ) → x ≡ Some u → is_position u ≡ true) → AllPositions (ordered n E) → AllPositions (put x (ordered n E))
    go None k a = a
    go (Some u) k a = insert_positions u (ordered n E) (k u refl) a

-- any place, since 0 is a position
position_at : (l : List ℤ) (k : ℕ) → AllPositions l → is_position (get_or l k (pos 0)) ≡ true
unfolding is_position
position_at [] k a = refl
position_at (x ∷ xs) zero a = a.0
position_at (x ∷ xs) (suc k) a = position_at xs k a.1

-- no more is dropped from each end than f
trim_small : (f z : ℕ) → trim f z ≤ f
unfolding trim
trim_small f z = by_cases (dec_le z f) (λ k. rw le-leb (omega arith)) (λ k. let l : f < z = omega arith in rw lt-leb (omega arith))

rule_trim : (K : Family) (f z : ℕ) → (rule_of K f).trim z ≤ f
rule_trim TwoRounds f z = trim_small f z
rule_trim OneRound f z = omega arith

-- what is kept of entries in range
pub kept_proper : (K : Family) (r n f z : ℕ) (E : ℕ → Entry) → r ≤ 1 → InRange n E → ProperKept f (kept r ((rule_of K f).trim z) (ordered n E))
unfolding middle low_kept high_kept
kept_proper K r n f z E small h =
    let a = ordered_positions n E h in
    let low = position_at (ordered n E) _ a in
    let high = position_at (ordered n E) _ a in
    record { low = low; high = high; trim = rule_trim K f z; position = half_position r _ _ small low high }

-- ---- trusted entries

pub listed_position : (n : ℕ) (t : Table) → ProperTable n t → InRange n (table_at t)
unfolding entry_at
listed_position n t P j l u e = go (bit_of t.marks j) (get_or t.entries j (pos 0)) (P.fit j l) e
  where
    go : (b : Bool) (v : ℤ) → fits b v ≡ true → cond b (Some v) None ≡ Some u → is_position u ≡ true
    go true v f q = let z : v ≡ u = cc in rw z at f
    go false v f q = absurd (not_null refl q)

module _ (h : Head) (P : ProperHead h) where
  pub trusted_positions : InRange h.seat.n (trusted_by h)
  unfolding given_by
  trusted_positions j l u e =
      let G = h.links in
      ((trusted_in_range h.seat.n h.seat.f (given h) j (λ k m w. says k m w (bit_of G.confessed k) (bit_of G.listed k)) u).0 e).0.within
    where
      says : (k : ℕ) → k < h.seat.n → (w : ℤ) (a b : Bool)
          → says_of j (cond a confessed (cond b (gave (table_at (list_from h.links h.lists k))) nothing)) ≡ Some w → is_position w ≡ true
      says k m w true b q = absurd (not_null refl q)
      says k m w false true q = listed_position h.seat.n (list_from h.links h.lists k) (P.links.tables k m) j l w q
      says k m w false false q = absurd (not_null refl q)

  -- the entries from which a phase end settles
  pub entries_positions : (K : Family) → InRange h.seat.n (entries_by K h)
  entries_positions TwoRounds = trusted_positions
  entries_positions OneRound = listed_position h.seat.n h.list P.list
