-- Cells: a position of 32 bits is read back from its cell, and so two cells are equal just if their entries are.
use Rattle.std.specs.Prelude.{None, Some}
use mathlib.Core.Path.{◌≡◌, refl, ap, sym, ◌∙◌}
use mathlib.Core.Bool.{true, false}
use mathlib.Core.List.{List}
use mathlib.Core.Logic.{◌≢◌}
use Prim.Native.Nat.{ℕ, ◌+◌, ◌<◌}
use native.Mathlib.Omega.{arith}
use native.Mathlib.Nat.{mod-eq_of_lt}
use lib.Dec.{eqb, eqb→eq, eqb_refl, eqb-zero-suc}
use lib.IntN.{ℤ, pos}
use lib.ListN.{length, get_or, set, take}
use lib.Seq.{get_or-set_same, get_or-set_other}
use mir.Syntax.{w32}
use mir.Val.{SFits, to_z, of_z}
use mir.Facts.{to_z-of_z, Fits-of_z}
use borrow.Author.Count.{below_more}
use Rattle.std.proofs.lemmas.List.{get_or-take, length-take}
use Rattle.terms.specs.Positions.{eq_z}
use Rattle.terms.specs.Entry.{Entry}
use Rattle.terms.proofs.Whole.{eqZ→eq, eq_z_refl}
use Rattle.fields.specs.Bytes.{word_of}
use Rattle.marks.specs.Marks.{bit_of}
use Rattle.entries.specs.Entries.{entry_at}
use Rattle.fields.proofs.Bytes.{to_z_signed, of_z_word}
use Rattle.terms.specs.Counting.{Each, sum, bit}
use Rattle.convergence.specs.Trust.{is}
use Rattle.terms.proofs.Sums.{sum_same}
use Rattle.convergence.proofs.Support.{same_position}
use Rattle.settle_trust.specs.Cells.{cell_for, cell_entry, CellOf, HoldsEach, equal_to}
use Rattle.settle_trust.proofs.Tests.{same_test}

-- a position of 32 bits, as the machine reads it, is read back from its cell
pub holds_position : {v : ℤ} {x : ℕ} → SFits w32 v → x ≡ cell_for (Some (to_z w32 (of_z w32 v))) → CellOf x (Some v)
holds_position {v} {x} f e =
    let q : x ≡ cell_for (Some v) = e ∙ ap (λ (u : ℤ). cell_for (Some u)) (to_z-of_z f) in
    let below : word_of v < 4294967296 = omega (arith, (Fits-of_z f).fits, of_z_word v) in
    record { cell = q; entry = rw (q, mod-eq_of_lt below) (ap Some (sym (to_z_signed (word_of v)) ∙ ap (to_z w32) (sym (of_z_word v)) ∙ to_z-of_z f)) }

pub holds_null : CellOf 0 None
holds_null = record { cell = refl; entry = refl }

-- ---- an entry of a list

pub holds_same : {x : ℕ} {d e : Entry} → CellOf x d → d ≡ e → CellOf x e
holds_same h q = record { cell = h.cell ∙ ap cell_for q; entry = h.entry ∙ q }

module _ (m : ℕ) (E : List ℤ) (j : ℕ) where
  pub entry_marked : bit_of m j ≡ true → entry_at m E j ≡ Some (get_or E j (pos 0))
  unfolding entry_at
  entry_marked e = rw e

  pub entry_unmarked : bit_of m j ≡ false → entry_at m E j ≡ None
  unfolding entry_at
  entry_unmarked e = rw e

-- ---- equal cells

pub same_cells : {x y : ℕ} {u v : ℤ} → CellOf x (Some u) → CellOf y (Some v) → eqb y x ≡ eq_z u v
same_cells {x} {y} {u} {v} p q =
    same_test (eqb y x) (eq_z u v)
    (λ t. let e : v ≡ u = same_position p.entry (ap cell_entry (sym (eqb→eq y x t)) ∙ q.entry) in rw e (eq_z_refl u))
    (λ t. let e : y ≡ x = q.cell ∙ ap (λ (w : ℤ). cell_for (Some w)) (sym (eqZ→eq u v t)) ∙ sym p.cell in rw e (eqb_refl x))

-- the machine compares the words of two numbers
pub same_bits : {x y : ℤ} → SFits w32 x → SFits w32 y → eqb (of_z w32 x) (of_z w32 y) ≡ eq_z x y
same_bits {x} {y} f g =
    same_test (eqb (of_z w32 x) (of_z w32 y)) (eq_z x y)
    (λ t. let e : x ≡ y = sym (to_z-of_z f) ∙ ap (to_z w32) (eqb→eq (of_z w32 x) (of_z w32 y) t) ∙ to_z-of_z g in rw e (eq_z_refl y))
    (λ t. rw (eqZ→eq x y t) (eqb_refl (of_z w32 y)))

is_held : {x y : ℕ} {u : ℤ} {e : Entry} → CellOf x (Some u) → CellOf y e → bit (eqb y x) ≡ is u e
is_held {u = u} {e = None} p q = rw (q.cell, p.cell) (ap bit (eqb-zero-suc (word_of u)))
is_held {e = Some v} p q = ap bit (same_cells p q)

-- ---- a column

-- a cell of the first n, read from these alone
pub read_first : (n : ℕ) (cells : List ℕ) (k : ℕ) → k < length (take n cells) → get_or (take n cells) k 0 ≡ get_or cells k 0
read_first n cells k l = get_or-take n cells k 0 (omega (arith, length-take n cells))

-- the cell x is as often among the first n as its position is among the entries that they hold
pub equal_held : {x : ℕ} {u : ℤ} (n : ℕ) (cells : List ℕ) (E : ℕ → Entry) → CellOf x (Some u) → HoldsEach n cells E → equal_to n cells x ≡ sum n (λ k. is u (E k))
equal_held n cells E p h = sum_same n _ _ (λ k l. is_held p (h k l))

-- a column is filled from cell 0 up
pub each_stored : (cells : List ℕ) (k x : ℕ) (P : ℕ → ℕ → Type 0) → k < length cells → Each k (λ i. P i (get_or cells i 0)) → P k x
    → Each (k + 1) (λ i. P i (get_or (set cells k x) i 0))
each_stored cells k x P l h p = below_more (λ i. P i (get_or (set cells k x) i 0)) k kept last
  where
    kept : Each k (λ i. P i (get_or (set cells k x) i 0))
    kept i q = let e : i ≢ k = omega arith in rw (get_or-set_other cells k i x 0 e) (h i q)

    last : P k (get_or (set cells k x) k 0)
    last = rw (get_or-set_same cells k x 0 l) p
