-- What the buffers tell, as a text is put behind the text that is there, and a phase end behind the ends.
use Rattle.std.specs.Prelude.{Some}
use mathlib.Core.Path.{◌≡◌, refl, ap, sym, ◌∙◌}
use mathlib.Core.Bool.{Bool, true, false, not}
use mathlib.Core.List.{List, [], ◌∷◌, ◌++◌}
use Prim.Native.Nat.{ℕ, ◌+◌, ◌*◌, ◌≤◌, ◌<◌}
use native.Mathlib.Omega.{arith}
use lib.Dec.{eqb}
use lib.ListN.{length, get_or, set, take, drop, length-append, length-drop, length-set}
use lib.Seq.{take_at, take-length, drop-append-add, drop-drop, drop-set-lt, get_or-set_same, get_or-set_other, paste, length-paste, drop-paste}
use lib.IntN.{ℤ, pos}
use borrow.Author.Tests.{leb-true, eq-eqb, ne_eqb}
use Rattle.terms.specs.Counting.{Each}
use Rattle.terms.proofs.Booleans.{and_both}
use Rattle.ring_spec.specs.Rounds.{Ring, PhaseEnd, receivers, is_out}
use Rattle.texts.specs.declared.Text.{Text}
use Rattle.texts.specs.Texts.{bytes_of}
use Rattle.run_piece.specs.Advances.{struck_here, end_here, Grown, none, one}
use Rattle.run_piece.proofs.Growing.{line_some}
use Rattle.run_whole.specs.Buffers.{Buffers, most_ends, has_room}
use Rattle.run_whole.specs.Inner.{Put, sound_row, word_at, EndKept, Rows, HoldsSoFar}
use Rattle.run_whole.proofs.Rows.{row_long, row_holds, row_before, row_new, rows_same}

-- ---- room

pub record Roomy (most : ℕ) (B : Buffers) : Type 0 where
  pub out : 64 * (most + 2) ≤ length B.out
  pub rows : 48 * most ≤ length B.rows
  pub words : most ≤ length B.words

pub roomy : (k : List ℕ) (B : Buffers) → has_room k (length B.out) (length B.rows) (length B.words) ≡ true → Roomy (most_ends k) B
unfolding has_room
roomy k B h =
    let (front, words) = and_both _ _ h in
    let (out, rows) = and_both _ _ front in
    record { out = leb-true _ _ out; rows = leb-true _ _ rows; words = leb-true _ _ words }

-- a phase end x of n heads and m listeners at which the ring R stands: those struck in its last round are these, and the positions are those of its sound receivers
pub record AtEnd (n m : ℕ) (x : PhaseEnd) (R : Ring) (struck : ℕ) (positions : List ℤ) : Type 0 where
  pub is : struck ≡ R.before
  pub held : Each receivers (λ i. is_out n m x.struck i ≡ false → (x.heads i).seat.position ≡ Some (get_or positions i (pos 0)))

-- the word of the next end
word_here : (es : List PhaseEnd) (R : Ring) {c struck : ℕ} → c ≡ length es → struck ≡ R.before → word_at c struck ≡ struck_here es R
word_here [] R e s = rw e refl
word_here (x ∷ es) R e s = rw e s

module _ {n m : ℕ} {text : List ℕ} {es : List PhaseEnd} {l c : ℕ} {B₀ B : Buffers} (T : HoldsSoFar n m text es l c B₀ B) where
  pub out_long : l ≤ length B₀.out → length B.out ≡ length B₀.out
  out_long h = ap length T.out ∙ length-append text (drop l B₀.out) ∙ omega (arith, length-drop l B₀.out, T.len)

  -- ---- a text more

  abbrev with_out : List ℕ → Buffers
  with_out out = record { out = out; rows = B.rows; words = B.words }

  pub told_put : (more : List ℕ) (k : ℕ) {out : List ℕ} → length more ≡ k → out ≡ paste B.out l more k → HoldsSoFar n m (text ++ more) es (l + k) c B₀ (with_out out)
  told_put more k e p =
      let front : take l B.out ≡ text = ap (take l) T.out ∙ take_at text (drop l B₀.out) l (sym T.len) in
      let all : take k more ≡ more = ap (λ (m : ℕ). take m more) (sym e) ∙ take-length more in
      let back : drop (l + k) B.out ≡ drop (l + k) B₀.out =
      ap (drop (l + k)) T.out ∙ ap (λ (m : ℕ). drop (m + k) (text ++ drop l B₀.out)) T.len ∙ drop-append-add text (drop l B₀.out) k
      ∙ drop-drop k l B₀.out in
      record {
        len = omega (arith, T.len, length-append text more);
        out =
            p ∙ ap (λ (x : List ℕ). x ++ take k more ++ drop (l + k) B.out) front ∙ ap (λ (x : List ℕ). text ++ x ++ drop (l + k) B.out) all
            ∙ ap (λ (x : List ℕ). text ++ more ++ x) back;
        count = T.count;
        rows = T.rows;
        more_rows = T.more_rows;
        more_words = T.more_words;
        long = T.long;
        wide = T.wide;
      }

  -- ---- a phase end more

  module _ (x : PhaseEnd) (word : ℕ) (positions : List ℤ) (is : word ≡ x.struck)
      (held : Each receivers (λ i. is_out n m x.struck i ≡ false → (x.heads i).seat.position ≡ Some (get_or positions i (pos 0))))
      (ends-room : 48 * c + 48 ≤ length B.rows) (words-room : c < length B.words) where
    abbrev s : List ℤ
    s = sound_row n m word positions 48

    abbrev rows' : List ℤ
    rows' = paste B.rows (48 * c) s 48

    abbrev words' : List ℕ
    words' = set B.words c word

    long_row : length s ≡ 48
    long_row = row_long n m word positions 48

    new_rows : Rows n m (x ∷ es) rows' words'
    unfolding Rows
    new_rows =
        let z = T.count in (
          rw (← z, row_new B.rows c s ends-room long_row, get_or-set_same B.words c word 0 words-room) (row_holds n m word positions x is held),
          rows_same n m es B.rows rows' B.words words' (λ e h. row_before B.rows c s ends-room long_row e (omega arith))
              (λ e h. get_or-set_other B.words c e word 0 (omega arith)) T.rows,
        )

    told_keep : HoldsSoFar n m text (x ∷ es) l (c + 1) B₀ (record { out = B.out; rows = rows'; words = words' })
    told_keep =
        let next : 48 * (c + 1) ≡ 48 * c + 48 = omega arith in
        record {
          len = T.len;
          out = T.out;
          count = omega (arith, T.count);
          rows = new_rows;
          more_rows =
              rw next
              (drop-paste B.rows (48 * c) s 48 (omega arith) (omega (arith, long_row)) ∙ sym (drop-drop 48 (48 * c) B.rows) ∙ ap (drop 48) T.more_rows
              ∙ drop-drop 48 (48 * c) B₀.rows);
          more_words =
              drop-set-lt (c + 1) B.words c word (omega arith) ∙ sym (drop-drop 1 c B.words) ∙ ap (drop 1) T.more_words ∙ drop-drop 1 c B₀.words;
          long = length-paste B.rows (48 * c) s 48 ends-room (omega (arith, long_row)) ∙ T.long;
          wide = length-set B.words c word ∙ T.wide;
        }

-- ---- what is shown, and the phase end that it is the line of

module _ {n m : ℕ} {text : List ℕ} {es : List PhaseEnd} {l c : ℕ} {B₀ B : Buffers} (T : HoldsSoFar n m text es l c B₀ B) where
  module _ {most : ℕ} (room : Roomy most B₀) (small : l ≤ 64 * (c + 1)) {t : Text} (short : t.len ≤ 64) {es' : List PhaseEnd} (few : length es' ≤ most) {R : Ring}
      {struck : ℕ} {positions : List ℤ} (ended : (x : PhaseEnd) → es' ≡ x ∷ es → R.round ≡ 0 → AtEnd n m x R struck positions)
      {l' c' : ℕ} {out : List ℕ} {rows : List ℤ} {words : List ℕ} (P : Put t l l' B.out out) where
    pub told_more : {some : Bool} → some ≡ not (eqb t.len 0) → EndKept some n m struck positions c c' B.rows B.words rows words → Grown n m es es' R (bytes_of t)
        → HoldsSoFar n m (text ++ bytes_of t) es' l' c' B₀ (record { out = out; rows = rows; words = words }) × (l' ≤ 64 * (c' + 1))
    told_more {some} flag K (none e z) =
        let long = P.long short in
        let zero : t.len ≡ 0 = omega (arith, ap length z) in
        let off : some ≡ false = flag ∙ ap not (eq-eqb t.len 0 zero) in
        let (same, rows, marks) = rw off at K in
        let n-es = ap length e in
        let fits : l ≤ length B₀.out = omega (arith, T.count, room.out) in
        let (is, put) = P.puts short (omega (arith, out_long T fits)) in
        (rw (e, is, same, rows, marks) (told_put T (bytes_of t) t.len long put), omega arith)
    told_more {some} flag K (one collect confess r e z) =
        let long = P.long short in
        let x = end_here collect confess es R in
        let some_bytes = line_some n m (length es) x in
        let n-line = ap length z in
        let on : some ≡ true = flag ∙ ap not (ne_eqb t.len 0 (omega arith)) in
        let A = ended x e r in
        let n-es = ap length e in
        let fits : l + 64 ≤ length B₀.out = omega (arith, T.count, room.out) in
        let ends-room : 48 * c + 48 ≤ length B.rows = omega (arith, T.count, T.long, room.rows) in
        let words-room : c < length B.words = omega (arith, T.count, T.wide, room.words) in
        let (more, rows, marks) = (rw on at K) ends-room words-room in
        let (is, put) = P.puts short (omega (arith, out_long T (omega arith))) in
        (rw (e, is, more, rows, marks) (told_keep (told_put T (bytes_of t) t.len long put) x (word_at c struck) positions (word_here es R T.count A.is) A.held ends-room words-room), omega arith)
