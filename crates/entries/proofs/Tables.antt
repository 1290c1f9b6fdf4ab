-- Tables of entries: filled from entry 0 up, the same if their entries are, and with an entry put where there was none. Mark j is 2^j, above the sum of those before it, so that the marks of 32 entries are a word.
use Rattle.std.specs.Prelude.{None, Some}
use mathlib.Core.Path.{◌≡◌, refl, ap, ap₂, sym, ◌∙◌}
use mathlib.Core.Logic.{◌≢◌, by_cases}
use mathlib.Core.Bool.{cond}
use mathlib.Core.List.{List}
use Prim.Native.Nat.{ℕ, zero, suc, ◌+◌, ◌*◌, ◌%◌, ◌^◌, ◌≤◌, ◌<◌, min}
use native.Mathlib.Omega.{arith}
use native.Mathlib.Numerals.{add-one}
use native.Mathlib.Nat.{mod-eq_of_lt, pow-succ'}
use native.Mathlib.Decide.{ℕ_discrete}
use lib.Dec.{eqb}
use lib.Pow.{pow_pos, pow_mono}
use lib.IntN.{ℤ}
use lib.ListN.{length, set, length-set}
use lib.Seq.{set_out, set-set, set_comm}
use borrow.Author.Tests.{eq-eqb, ne_eqb}
use Rattle.terms.specs.Entry.{Entry}
use Rattle.terms.specs.declared.Table.{Table}
use Rattle.entries.specs.Entries.{zeros}
use Rattle.entries.specs.Tables.{mark, value_of, marks_of, values_of, table_of}
use Rattle.terms.specs.Counting.{Each}
use Rattle.terms.proofs.Sums.{each_last, each_less}
use Rattle.marks.proofs.Counts.{first_32}

mark_le : (e : Entry) (x : ℕ) → mark e * x ≤ x
mark_le None x = omega arith
mark_le (Some u) x = omega arith

pub marks_below_lem : (E : ℕ → Entry) (n : ℕ) → marks_of n E < 2 ^ n
unfolding marks_of
marks_below_lem E zero = omega arith
marks_below_lem E (suc n) = rw pow-succ' (omega (arith, marks_below_lem E n, mark_le (E n) (2 ^ n)))

-- entry j is stored, r its mark
module _ (E : ℕ → Entry) (j : ℕ) {m r : ℕ} (h : j < 32) (p : m ≡ marks_of j E) (q : r ≡ mark (E j)) where
  shifted : r * 2 ^ j % 4294967296 ≡ mark (E j) * 2 ^ j
  shifted =
      let k : 2 ^ suc j ≤ 2 ^ 32 = pow_mono h in
      let l = rw (pow-succ' 2 j) at k in
      ap (λ (x : ℕ). x * 2 ^ j % 4294967296) q ∙ mod-eq_of_lt (omega (arith, mark_le (E j) (2 ^ j), pow_pos j))

  pub marks_next : m + r * 2 ^ j % 4294967296 ≡ marks_of (j + 1) E
  unfolding marks_of
  marks_next = rw (add-one j, shifted, p)

  pub marks_fit : m + r * 2 ^ j % 4294967296 < 4294967296
  marks_fit =
      let l : j + 1 ≤ 32 = omega arith in
      let k : 2 ^ (j + 1) ≤ 2 ^ 32 = pow_mono l in
      omega (arith, marks_next, marks_below_lem E (j + 1))

pub numbers_next : (E : ℕ → Entry) (j : ℕ) {out : List ℤ} {v : ℤ} → out ≡ values_of j E → v ≡ value_of (E j) → set out j v ≡ values_of (j + 1) E
unfolding values_of
numbers_next E j p q = rw (add-one j, p, q)

pub numbers_long : (E : ℕ → Entry) (n : ℕ) → length (values_of n E) ≡ 32
unfolding values_of zeros
numbers_long E zero = refl
numbers_long E (suc n) = length-set (values_of n E) n (value_of (E n)) ∙ numbers_long E n

module _ (E : ℕ → Entry) (none : (j : ℕ) → 32 ≤ j → E j ≡ None) (n : ℕ) where
  marks_first_32 : marks_of (min n 32) E ≡ marks_of n E
  unfolding marks_of
  marks_first_32 = first_32 (λ k. marks_of k E) (λ k l. rw (none k l) (omega arith)) n

  numbers_first_32 : values_of (min n 32) E ≡ values_of n E
  unfolding values_of
  numbers_first_32 = first_32 (λ k. values_of k E) (λ k l. set_out (values_of k E) k (value_of (E k)) (rw numbers_long l)) n

  -- the first 32 entries stored are the whole table
  pub table_first_32 : {m : ℕ} {out : List ℤ} → m ≡ marks_of (min n 32) E → out ≡ values_of (min n 32) E → ◌≡◌ {A = Table} (record { marks = m; entries = out }) (table_of n E)
  table_first_32 p q = ap₂ (λ (a : ℕ) (b : List ℤ). record { marks = a; entries = b }) (p ∙ marks_first_32) (q ∙ numbers_first_32)

-- ---- a table depends on its entries only

pub marks_same : (n : ℕ) (E E' : ℕ → Entry) → Each n (λ k. E k ≡ E' k) → marks_of n E ≡ marks_of n E'
unfolding marks_of
marks_same zero E E' h = refl
marks_same (suc n) E E' h = rw (marks_same n E E' (each_less h), each_last h)

pub numbers_same : (n : ℕ) (E E' : ℕ → Entry) → Each n (λ k. E k ≡ E' k) → values_of n E ≡ values_of n E'
unfolding values_of
numbers_same zero E E' h = refl
numbers_same (suc n) E E' h = rw (numbers_same n E E' (each_less h), each_last h)

pub table_same : (n : ℕ) (E E' : ℕ → Entry) → Each n (λ k. E k ≡ E' k) → table_of n E ≡ table_of n E'
table_same n E E' h = ap₂ (λ (m : ℕ) (l : List ℤ). record { marks = m; entries = l }) (marks_same n E E' h) (numbers_same n E E' h)

-- marks and numbers that were filled up to n
pub table_filled : (E : ℕ → Entry) {n k m : ℕ} {l : List ℤ} → k ≡ n → m ≡ marks_of k E → l ≡ values_of k E
    → ◌≡◌ {A = Table} (record { marks = m; entries = l }) (table_of n E)
table_filled E e p q = rw (p, q, e)

-- ---- an entry put where there was none

module _ (E : ℕ → Entry) (k : ℕ) (e : Entry) where
  abbrev pub put : ℕ → Entry
  put j = cond (eqb j k) e (E j)

  pub put_same : put k ≡ e
  put_same = rw (eq-eqb k k refl)

  pub put_other : (j : ℕ) → j ≢ k → put j ≡ E j
  put_other j d = rw (ne_eqb j k d)

  marks_put : E k ≡ None → (n : ℕ) → k < n → marks_of n put ≡ marks_of n E + mark e * 2 ^ k
  unfolding marks_of
  marks_put none zero l = absurd (omega arith)
  marks_put none (suc n) l = by_cases (ℕ_discrete n k)
      (λ q. rw (q, put_same, marks_same k put E (λ j h. put_other j (omega arith)), none) (omega arith))
      (λ d. rw (put_other n d, marks_put none n (omega arith)) (omega arith))

  pub numbers_put : (n : ℕ) → k < n → values_of n put ≡ set (values_of n E) k (value_of e)
  unfolding values_of
  numbers_put zero l = absurd (omega arith)
  numbers_put (suc n) l = by_cases (ℕ_discrete n k)
      (λ q. rw (q, put_same, numbers_same k put E (λ j h. put_other j (omega arith))) (sym (set-set (values_of k E) k (value_of (E k)) (value_of e))))
      (λ d. rw (put_other n d, numbers_put n (omega arith)) (set_comm (values_of n E) k n (value_of e) (value_of (E n)) (omega arith)))

-- the marks of 32 entries are a word
marks_word : (E : ℕ → Entry) (n : ℕ) → n ≤ 32 → marks_of n E < 4294967296
unfolding marks_of
marks_word E zero l = omega arith
marks_word E (suc n) l = omega (arith, marks_fit E n l refl refl, rw (add-one n) at (marks_next E n l refl refl))

-- the mark r of entry e
module _ (E : ℕ → Entry) (k n : ℕ) (e : Entry) {m r : ℕ} (none : E k ≡ None) (l : k < n) (size : n ≤ 32) (p : m ≡ marks_of n E) (q : r ≡ mark e) where
  pub marks_sum : m + r * 2 ^ k % 4294967296 ≡ marks_of n (put E k e)
  marks_sum =
      let s = marks_put E k e none n l in
      let w : mark e * 2 ^ k < 4294967296 = omega (arith, marks_word (put E k e) n size) in
      rw (p, q, mod-eq_of_lt w) (sym s)

  pub marks_room : m + r * 2 ^ k % 4294967296 < 4294967296
  marks_room = rw marks_sum (marks_word (put E k e) n size)
