-- The search of a column for the only cell that is in `need` lists or more. What is in so many is among the first k if fewer than `need` are left, so the later ones
-- need no look. What the cells agree on is the cell of what the entries that they hold decide.
use Rattle.std.specs.Prelude.{None, Some}
use mathlib.Core.Path.{◌≡◌, refl, ap, sym, ◌∙◌}
use mathlib.Core.Bool.{Bool, true, false, not, true≢false}
use mathlib.Core.List.{List}
use mathlib.Core.Logic.{◌≢◌}
use Prim.Native.Nat.{ℕ, ◌+◌, ◌-◌, ◌≤◌, ◌<◌}
use native.Mathlib.Omega.{arith}
use native.Mathlib.Numerals.{add-one}
use native.Mathlib.Decide.{ℕ_discrete, le_ind}
use lib.Dec.{eqb}
use lib.IntN.{ℤ}
use lib.ListN.{get_or}
use denote.Floats.{passes, is_true}
use borrow.Author.Tests.{eqb-false, leb-true, not-true, eq-eqb, ne_eqb, le-leb}
use Rattle.terms.specs.Entry.{Entry}
use Rattle.terms.specs.Counting.{sum, bit}
use Rattle.terms.proofs.Booleans.{and_both}
use Rattle.terms.proofs.Sums.{bit_le, some_of}
use Rattle.convergence.specs.Trust.{is, Seen, none, one, many, seen, choose}
use Rattle.convergence.proofs.Support.{Says, says, same_position, is_yes}
use Rattle.settle_trust.specs.Cells.{cell_for, cell_entry, CellOf, HoldsEach, equal_to, is_another, OnlyCell, AgreedCell, stands_in, agreed, decided}
use Rattle.settle_trust.specs.Cells.AgreedCell.{only, no_such}
use Rattle.settle_trust.proofs.Cells.{holds_null, holds_same, equal_held}

-- ---- cell k

module _ (cells : List ℕ) (k y : ℕ) where
  cell_next : equal_to (k + 1) cells y ≡ equal_to k cells y + bit (eqb (get_or cells k 0) y)
  unfolding sum
  cell_next = rw (add-one k)

  pub cell_other : get_or cells k 0 ≢ y → equal_to (k + 1) cells y ≡ equal_to k cells y
  cell_other d = omega (arith, cell_next, ap bit (ne_eqb (get_or cells k 0) y d))

  pub cell_more : equal_to (k + 1) cells y ≤ equal_to k cells y + 1
  cell_more = omega (arith, cell_next, bit_le (eqb (get_or cells k 0) y))

  rest_le : (n : ℕ) → k ≤ n → equal_to n cells y ≤ equal_to k cells y + (n - k)
  unfolding sum
  rest_le n l =
      le_ind (λ m. equal_to m cells y ≤ equal_to k cells y + (m - k)) (omega arith) (λ m i h. omega (arith, bit_le (eqb (get_or cells m 0) y))) n l

-- ---- what the cells agree on

module _ (n need : ℕ) (cells : List ℕ) where
  pub one_answer : (x y : ℕ) → AgreedCell n need cells x → AgreedCell n need cells y → x ≡ y
  one_answer _ _ (only x o) (only y p) = p.alone x o.some o.reaches
  one_answer _ _ (only x o) (no_such h) = absurd (h x o)
  one_answer _ _ (no_such h) (only y p) = absurd (h y p)
  one_answer _ _ (no_such g) (no_such h) = refl

  -- x reaches, if it is not 0, and no other does
  pub agree_on : (x : ℕ) → (x ≢ 0 → need ≤ equal_to n cells x) → ((y : ℕ) → y ≢ 0 → need ≤ equal_to n cells y → y ≡ x) → AgreedCell n need cells x
  agree_on x reaches alone = go (ℕ_discrete x 0)
    where
      go : Dec (x ≡ 0) → AgreedCell n need cells x
      go (yes z) = rw z (no_such (λ y o. o.some (alone y o.some o.reaches ∙ z)))
      go (no s) = only x (record { some = s; reaches = reaches s; alone = alone })

  -- every number reaches 0
  some_needed : {x : ℕ} → OnlyCell n need cells x → need ≢ 0
  some_needed o z = let e = o.alone 1 (λ q. omega arith) (omega arith) ∙ sym (o.alone 2 (λ q. omega arith) (omega arith)) in omega arith

  pub none_needed : need ≡ 0 → AgreedCell n need cells 0
  none_needed z = no_such (λ x o. some_needed o z)

-- ---- the search

-- found among the first k cells: one that reaches, or 0; and all of them that reach are that one
pub record Looked (n need : ℕ) (cells : List ℕ) (k found : ℕ) : Type 0 where
  pub reaches : found ≢ 0 → need ≤ equal_to n cells found
  pub all : (y : ℕ) → y ≢ 0 → need ≤ equal_to n cells y → 1 ≤ equal_to k cells y → y ≡ found

pub none_looked : (n need : ℕ) (cells : List ℕ) → Looked n need cells 0 0
unfolding sum
none_looked n need cells = record { reaches = λ s. absurd (s refl); all = λ y s r h. absurd (omega arith) }

module _ (n need : ℕ) (cells : List ℕ) (found x : ℕ) where
  another : is_another n need cells found x ≡ true → (x ≢ 0) × (x ≢ found) × (need ≤ equal_to n cells x)
  another e =
      let (p, q) = and_both (not (eqb x 0)) _ e in
      let (r, t) = and_both (not (eqb x found)) _ q in
      (eqb-false x 0 (not-true _ p), eqb-false x found (not-true _ r), leb-true need _ t)

  no_other : is_another n need cells found x ≡ false → x ≢ 0 → need ≤ equal_to n cells x → x ≡ found
  no_other e s r = go (ℕ_discrete x found)
    where
      go : Dec (x ≡ found) → x ≡ found
      go (yes q) = q
      go (no d) =
          let t : is_another n need cells found x ≡ true = rw (ne_eqb x 0 s, ne_eqb x found d, le-leb need (equal_to n cells x) r) in
          absurd (true≢false (sym t ∙ e))

module _ (n need : ℕ) (cells : List ℕ) (k found : ℕ) (L : Looked n need cells k found) where
  abbrev x : ℕ
  x = get_or cells k 0

  -- a cell that reaches, among the first k + 1 but not cell k
  earlier : (y : ℕ) → y ≢ 0 → need ≤ equal_to n cells y → 1 ≤ equal_to (k + 1) cells y → x ≢ y → y ≡ found
  earlier y s r h d = L.all y s r (omega (arith, cell_other cells k y d))

  pub turn_finds : is_another n need cells found x ≡ true → found ≡ 0 → Looked n need cells (k + 1) x
  turn_finds a z = record { reaches = λ s. (another n need cells found x a).2; all = λ y s r h. go y s r h (ℕ_discrete x y) }
    where
      go : (y : ℕ) → y ≢ 0 → need ≤ equal_to n cells y → 1 ≤ equal_to (k + 1) cells y → Dec (x ≡ y) → y ≡ x
      go y s r h (yes q) = sym q
      go y s r h (no d) = absurd (s (earlier y s r h d ∙ z))

  pub turn_finds_second : is_another n need cells found x ≡ true → found ≢ 0 → AgreedCell n need cells 0
  turn_finds_second a s =
      let (some, other, r) = another n need cells found x a in
      no_such (λ y o. other (o.alone x some r ∙ sym (o.alone found s (L.reaches s))))

  pub turn_passes : is_another n need cells found x ≡ false → Looked n need cells (k + 1) found
  turn_passes a = record { reaches = L.reaches; all = λ y s r h. go y s r h (ℕ_discrete x y) }
    where
      go : (y : ℕ) → y ≢ 0 → need ≤ equal_to n cells y → 1 ≤ equal_to (k + 1) cells y → Dec (x ≡ y) → y ≡ found
      go y s r h (yes q) = sym q ∙ no_other n need cells found x a (λ z. s (sym q ∙ z)) (rw q r)
      go y s r h (no d) = earlier y s r h d

  -- fewer than `need` are left
  pub search_ends : k ≤ n → n - k < need → AgreedCell n need cells found
  search_ends l few = agree_on n need cells found L.reaches (λ y s r. L.all y s r (omega (arith, rest_le cells k y n l)))

-- ---- what was seen of a column

module _ (ok : ℤ → Bool) (E : ℕ → Entry) where
  -- u alone passes the test, and stands among the first n
  pub only_seen : (u : ℤ) → ((w : ℤ) → ok w ≡ true → w ≡ u) → (n : ℕ) → ok u ≡ true → 1 ≤ sum n (λ i. is u (E i)) → seen ok n E ≡ one u
  only_seen u alone n t h = go (seen ok n E) (says ok n E)
    where
      go : (s : Seen) → Says ok n E s → s ≡ one u
      go none q = let (k, l, p) = some_of n (λ i. is u (E i)) h in absurd (q k l u (is_yes u (E k) p) (passes _ t))
      go (one w) q = ap one (alone w (is_true _ q.0))
      go many q = absurd (q.4 (alone q.0 (is_true _ q.2) ∙ sym (alone q.1 (is_true _ q.3))))

  -- no position passes the test
  pub none_seen : ((w : ℤ) → ok w ≡ false) → (n : ℕ) → seen ok n E ≡ none
  none_seen h n = go (seen ok n E) (says ok n E)
    where
      go : (s : Seen) → Says ok n E s → s ≡ none
      go none q = refl
      go (one u) q = absurd (true≢false (sym (is_true _ q.0) ∙ h u))
      go many q = absurd (true≢false (sym (is_true _ q.2) ∙ h q.0))

-- ---- cells that hold entries

not_zero : {x : ℕ} {u : ℤ} → CellOf x (Some u) → x ≢ 0
not_zero c z = omega (arith, c.cell)

module _ (n need : ℕ) (cells : List ℕ) (E : ℕ → Entry) (held : HoldsEach n cells E) where
  abbrev times : ℤ → ℕ
  times u = sum n (λ k. is u (E k))

  -- a position among the entries has its cell among the cells, and back
  cell_with : (u : ℤ) → 1 ≤ times u → (x : ℕ) × CellOf x (Some u)
  cell_with u h = let (k, l, p) = some_of n (λ i. is u (E i)) h in (get_or cells k 0, holds_same (held k l) (is_yes u (E k) p))

  held_by : (x : ℕ) → x ≢ 0 → 1 ≤ equal_to n cells x → (u : ℤ) × CellOf x (Some u)
  held_by x s h =
      let (k, l, p) = some_of n (λ i. bit (eqb (get_or cells i 0) x)) h in
      go k (ℕ_discrete (get_or cells k 0) x) p (held k l)
    where
      entry : (e : Entry) → CellOf x e → (u : ℤ) × CellOf x (Some u)
      entry None c = absurd (s c.cell)
      entry (Some u) c = (u, c)

      go : (k : ℕ) → Dec (get_or cells k 0 ≡ x) → 1 ≤ bit (eqb (get_or cells k 0) x) → CellOf (get_or cells k 0) (E k) → (u : ℤ) × CellOf x (Some u)
      go k (yes q) p c = entry (E k) (rw q at c)
      go k (no d) p c = absurd (omega (arith, ap bit (ne_eqb (get_or cells k 0) x d)))

  module _ (some : 1 ≤ need) where
    abbrev ok : ℤ → Bool
    ok = stands_in n need E

    only_chosen : (x : ℕ) → OnlyCell n need cells x → CellOf x (choose false false (agreed n need E))
    only_chosen x o =
        let (u, c) = held_by x o.some (omega (arith, o.reaches)) in
        let reach : need ≤ times u = omega (arith, o.reaches, equal_held n cells E c held) in
        holds_same c (sym (ap (choose false false) (only_seen ok E u (alone u c) n (le-leb need (times u) reach) (omega arith))))
      where
        alone : (u : ℤ) → CellOf x (Some u) → (w : ℤ) → ok w ≡ true → w ≡ u
        alone u c w t =
            let reach : need ≤ times w = leb-true need (times w) t in
            let (y, d) = cell_with w (omega arith) in
            let e : y ≡ x = o.alone y (not_zero d) (omega (arith, equal_held n cells E d held)) in
            same_position c.entry (ap cell_entry (sym e) ∙ d.entry)

    none_chosen : ((x : ℕ) → OnlyCell n need cells x → ⊥) → choose false false (agreed n need E) ≡ None
    none_chosen h = go (seen ok n E) (says ok n E)
      where
        go : (s : Seen) → Says ok n E s → choose false false s ≡ None
        go none q = refl
        go many q = refl
        go (one u) q =
            let reach : need ≤ times u = leb-true need (times u) (is_true _ q.0) in
            let (x, c) = cell_with u (omega arith) in
            absurd (h x (record { some = not_zero c; reaches = omega (arith, equal_held n cells E c held); alone = alone x c }))
          where
            alone : (x : ℕ) → CellOf x (Some u) → (y : ℕ) → y ≢ 0 → need ≤ equal_to n cells y → y ≡ x
            alone x c y s r =
                let (w, d) = held_by y s (omega arith) in
                let reach : need ≤ times w = omega (arith, equal_held n cells E d held) in
                let (k, l, p) = some_of n (λ i. is w (E i)) (omega arith) in
                let e : w ≡ u = q.1 k l w (is_yes w (E k) p) (passes _ (le-leb need (times w) reach)) in
                d.cell ∙ ap (λ (v : ℤ). cell_for (Some v)) e ∙ sym c.cell

  -- what the cells agree on is the cell of what the entries decide
  pub agreed_decided : {x : ℕ} → AgreedCell n need cells x → CellOf x (decided false n need E)
  agreed_decided (only x o) =
      rw (ne_eqb need 0 (some_needed n need cells o)) (only_chosen (let s = some_needed n need cells o in omega arith) x o)
  agreed_decided (no_such h) = go (ℕ_discrete need 0)
    where
      go : Dec (need ≡ 0) → CellOf 0 (decided false n need E)
      go (yes z) = rw (eq-eqb need 0 z) holds_null
      go (no s) = rw (ne_eqb need 0 s) (holds_same holds_null (sym (none_chosen (omega arith) h)))
