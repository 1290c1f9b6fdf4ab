-- The lists where they stand in the block: their words, the numbers and the cells of these, and when two are the same.
use Rattle.std.specs.Prelude.{Some}
use mathlib.Core.Path.{◌≡◌, refl, ap, ap₂, sym, ◌∙◌, fun_ext}
use mathlib.Core.Logic.{by_cases}
use mathlib.Core.Bool.{Bool, true, false, cond}
use mathlib.Core.List.{List, []}
use Prim.Native.Nat.{ℕ, suc, ◌+◌, ◌*◌, ◌<◌}
use native.Mathlib.Omega.{arith}
use native.Mathlib.Nat.{mod-eq_of_lt}
use native.Mathlib.Decide.{dec_lt}
use lib.Dec.{eqb, eqb→eq, eqb_refl}
use lib.IntN.{ℤ, pos}
use lib.ListN.{length, get_or, drop, length-drop, length-map, get_or-map, get_or-eq_default}
use lib.Seq.{get_or-take, get_or-drop, length-take-le}
use Rattle.terms.specs.Positions.{eq_z}
use Rattle.terms.specs.Entry.{Entry}
use Rattle.terms.proofs.Whole.{eqZ→eq, eq_z_refl}
use Rattle.fields.specs.Bytes.{signed_of, word_of}
use Rattle.fields.proofs.Bytes.{word_back}
use Rattle.marks.specs.Marks.{bit_of}
use Rattle.entries.specs.Entries.{entry_at, zeros}
use Rattle.convergence.specs.Trust.{nothing, confessed, gave}
use Rattle.settle_trust.specs.declared.Links.{Links}
use Rattle.settle_trust.specs.Received.{given_by}
use Rattle.settle_trust.specs.Cells.{CellOf}
use Rattle.settle_trust.proofs.Tests.{same_test}
use Rattle.settle_position.specs.Reference.{same_number}
use Rattle.head_spec.specs.declared.Row.{Row}
use Rattle.head_spec.specs.Record.{rows}
use Rattle.head_c.specs.Blocks.{IsBlock, up_to, numbers_at, list_at}
use Rattle.head_c.specs.Steps.{row_words, rows_in}
use Rattle.head_c.proofs.Copying.{up_to_long, up_to_at}
use Rattle.head_c.proofs.Reading.{number_at}

module _ (w : List ℕ) where
  pub row_long : IsBlock w → (k : ℕ) → k < 32 → length (row_words w k) ≡ 32
  row_long block k l = length-take-le 32 (drop (92 + 32 * k) w) (omega (arith, length-drop (92 + 32 * k) w))

  row_word : (k j : ℕ) → j < 32 → get_or (row_words w k) j 0 ≡ get_or w (92 + 32 * k + j) 0
  row_word k j l = get_or-take 32 (drop (92 + 32 * k) w) j 0 l ∙ get_or-drop (92 + 32 * k) w j 0

  -- entry j of list k
  pub row_number : (k j : ℕ) → k < 32 → j < 32 → get_or (get_or (rows_in w) k []) j (pos 0) ≡ signed_of (get_or w (92 + 32 * k + j) 0)
  row_number k j l m = ap (λ (E : List ℤ). get_or E j (pos 0)) (up_to_at 32 _ k [] l) ∙ number_at w (92 + 32 * k) j m

  pub same_number_lem : {u v : List ℕ} (a b j : ℕ) → a < 32 → b < 32 → j < 32 → u ≡ row_words w a → v ≡ row_words w b
      → eq_z (signed_of (get_or u j 0)) (signed_of (get_or v j 0)) ≡ same_number (get_or (rows_in w) a []) (get_or (rows_in w) b []) j
  same_number_lem a b j l m n p q =
      rw (p, q) (ap₂ eq_z (ap signed_of (row_word a j n) ∙ sym (row_number a j l n)) (ap signed_of (row_word b j n) ∙ sym (row_number b j m n)))

  -- what the links gave is no other by the lists of the record: these are the same for each link that gave one
  abbrev entries : Row → List ℤ
  entries r = r.entries

  list_of : (k : ℕ) → k < 32 → get_or (rows (up_to 32 (list_at w))) k [] ≡ cond (bit_of (get_or w 59 0) k) (numbers_at w (92 + 32 * k)) zeros
  list_of k l =
      get_or-map entries (up_to 32 (list_at w)) k (record { entries = [] })
      ∙ ap entries (up_to_at 32 (list_at w) k (record { entries = [] }) l)

  pub given_rows : (g : Links) → g.listed ≡ get_or w 59 0 → given_by g (rows_in w) ≡ given_by g (rows (up_to 32 (list_at w)))
  unfolding given_by
  given_rows g e = fun_ext (λ k. ap (cond (bit_of g.confessed k) confessed) (go k (bit_of g.listed k) (same k)))
    where
      same : (k : ℕ) → bit_of g.listed k ≡ true → get_or (rows_in w) k [] ≡ get_or (rows (up_to 32 (list_at w))) k []
      same k t = by_cases (dec_lt k 32)
          (λ l. up_to_at 32 _ k [] l ∙ sym (list_of k l ∙ rw (sym (ap (λ (m : ℕ). bit_of m k) e) ∙ t)))
          (λ d. get_or-eq_default (rows_in w) [] (omega (arith, up_to_long 32 (λ i. numbers_at w (92 + 32 * i))))
          ∙ sym (get_or-eq_default (rows (up_to 32 (list_at w))) [] (omega (arith, length-map (up_to 32 (list_at w)) entries, up_to_long 32 (list_at w)))))

      go : (k : ℕ) (b : Bool) → (b ≡ true → get_or (rows_in w) k [] ≡ get_or (rows (up_to 32 (list_at w))) k [])
          → let m = get_or g.marks k 0 in
          cond b (gave (entry_at m (get_or (rows_in w) k []))) nothing ≡ cond b (gave (entry_at m (get_or (rows (up_to 32 (list_at w))) k []))) nothing
      go k true h = ap (λ (E : List ℤ). gave (entry_at (get_or g.marks k 0) E)) (h refl)
      go k false h = refl

-- two words are the same just if their numbers are
pub same_word : (x y : ℕ) → x < 4294967296 → y < 4294967296 → eqb x y ≡ eq_z (signed_of x) (signed_of y)
same_word x y l m =
    same_test (eqb x y) (eq_z (signed_of x) (signed_of y))
    (λ t. rw (eqb→eq x y t) (eq_z_refl (signed_of y)))
    (λ t. let e : x ≡ y = sym (word_back x l) ∙ ap word_of (eqZ→eq (signed_of x) (signed_of y) t) ∙ word_back y m in rw e (eqb_refl y))

-- the cell of a word's number
pub word_cell : (x : ℕ) → x < 4294967296 → CellOf (1 + x) (Some (signed_of x))
word_cell x l =
    let e : 1 + x ≡ suc x = omega arith in
    rw e (record { cell = ap suc (sym (word_back x l)); entry = ap (λ (y : ℕ). Some (signed_of y)) (mod-eq_of_lt l) })
