-- A proper table is the table of its entries. Bit j of a mark word weighs 2^j, so the marks of the first j entries are the word's remainder by 2^j, and
-- a number is 0 if its entry is null.
use Rattle.std.specs.Prelude.{None, Some}
use mathlib.Core.Path.{◌≡◌, refl, ap₂, sym, ◌∙◌}
use mathlib.Core.Bool.{Bool, true, false, cond}
use mathlib.Core.List.{List, []}
use Prim.Native.Nat.{ℕ, zero, suc, ◌/◌, ◌%◌, ◌^◌, ◌≤◌, ◌<◌}
use native.Mathlib.Omega.{arith}
use native.Mathlib.Nat.{mod-eq_of_lt, mod-one, pow-succ'}
use native.Mathlib.Decide.{dec_lt}
use lib.Arith.{mod-mul}
use lib.Dec.{eqb}
use lib.Pow.{pow_pos}
use lib.ListN.{length, get_or}
use lib.Seq.{ext_get_or, get_or-set_other}
use lib.IntN.{ℤ, pos}
use Rattle.terms.specs.Entry.{Entry}
use Rattle.terms.specs.declared.Table.{Table}
use Rattle.marks.specs.Marks.{bit_of}
use Rattle.entries.specs.Entries.{fits, entry_at, numbers}
use Rattle.entries.specs.Tables.{table_at, mark, value_of, marks_of, values_of, table_of}
use Rattle.entries.proofs.Tables.{numbers_long}
use Rattle.entries.proofs.TableAt.{numbers_at_lem}
use Rattle.terms.specs.Counting.{Each}
use Rattle.frame_spec.specs.Proper.{ProperTable}
use Rattle.frame_spec.proofs.Listing.{numbers_none, unmarked_zero}

-- ---- marks

-- the mark of an entry is its bit
mark_bit : (m : ℕ) (l : List ℤ) (j : ℕ) → mark (entry_at m l j) ≡ m / 2 ^ j % 2
unfolding entry_at bit_of
mark_bit m l j = go (m / 2 ^ j % 2) (omega arith)
  where
    go : (x : ℕ) → x < 2 → mark (cond (eqb x 1) (Some (get_or l j (pos 0))) None) ≡ x
    go zero h = refl
    go (suc zero) h = refl
    go (suc (suc x)) h = absurd (omega arith)

marks_rest : (m : ℕ) (l : List ℤ) (n : ℕ) → marks_of n (entry_at m l) ≡ m % 2 ^ n
unfolding marks_of
marks_rest m l zero = sym (mod-one m)
marks_rest m l (suc n) = rw (pow-succ', mod-mul m {m = 2} {c = 2 ^ n} (omega arith) (pow_pos n), marks_rest m l n, mark_bit m l n) (omega arith)

-- ---- numbers

-- the numbers of n entries, and 0 from there to 32
record FillResult (n : ℕ) (E : ℕ → Entry) (l : List ℤ) : Type 0 where
  long : length l ≡ 32
  read : Each n (λ j. get_or l j (pos 0) ≡ value_of (E j))
  none : (j : ℕ) → n ≤ j → get_or l j (pos 0) ≡ pos 0

past : (E : ℕ → Entry) (n j : ℕ) → n ≤ j → get_or (values_of n E) j (pos 0) ≡ pos 0
unfolding values_of numbers
past E zero j l = numbers_none [] 0 j (omega arith)
past E (suc n) j l = get_or-set_other (values_of n E) n j (value_of (E n)) (pos 0) (omega arith) ∙ past E n j (omega arith)

filled : (E : ℕ → Entry) (n : ℕ) → n ≤ 32 → FillResult n E (values_of n E)
filled E n h = record { long = numbers_long E n; read = numbers_at_lem n E h; none = past E n }

filled_same : {n : ℕ} {E : ℕ → Entry} {l l' : List ℤ} → FillResult n E l → FillResult n E l' → l ≡ l'
filled_same {n} {E} {l} {l'} F F' = ext_get_or (pos 0) l l' (F.long ∙ sym F'.long) (λ j h. go j (dec_lt j n))
  where
    go : (j : ℕ) → Dec (j < n) → get_or l j (pos 0) ≡ get_or l' j (pos 0)
    go j (yes h) = F.read j h ∙ sym (F'.read j h)
    go j (no h) = F.none j (omega arith) ∙ sym (F'.none j (omega arith))

-- ---- a proper table

module _ (n : ℕ) (t : Table) (P : ProperTable n t) where
  entries_filled : FillResult n (table_at t) t.entries
  unfolding entry_at
  entries_filled = record { long = P.long; read = λ j l. go (bit_of t.marks j) (get_or t.entries j (pos 0)) (P.fit j l); none = P.none }
    where
      go : (b : Bool) (v : ℤ) → fits b v ≡ true → v ≡ value_of (cond b (Some v) None)
      go true v h = refl
      go false v h = unmarked_zero v h

  pub table_of_entries : n ≤ 32 → table_of n (table_at t) ≡ t
  table_of_entries size =
      ap₂ (λ (a : ℕ) (b : List ℤ). record { marks = a; entries = b }) (marks_rest t.marks t.entries n ∙ mod-eq_of_lt P.below)
      (filled_same (filled (table_at t) n size) entries_filled)
