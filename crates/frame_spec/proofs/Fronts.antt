-- A frame written field by field into a lent buffer. A buffer whose front is written has the bytes written and behind them its own; the next field,
-- written just behind them, makes the front longer by that field. So after the last field the front is the frame.
use Rattle.std.specs.Prelude.{Ok, Err}
use mathlib.Core.Path.{◌≡◌, refl, ap, ◌∙◌}
use mathlib.Core.List.{List, [], ◌∷◌, ◌++◌, append_assoc, append-nil}
use Prim.Native.Nat.{ℕ, suc, ◌+◌, ◌*◌, ◌≤◌, ◌<◌}
use native.Mathlib.Omega.{arith}
use native.Mathlib.Nat.{add-zero}
use native.Mathlib.Numerals.{add-one}
use lib.ListN.{length, get_or, drop, set, length-append}
use lib.IntN.{ℤ, pos}
use lib.Seq.{append_snoc, drop-cons, set_at}
use borrow.Author.Tests.{le-leb, lt-leb}
use Rattle.terms.specs.Refusals as refusal
use Rattle.terms.specs.declared.Table.{Table}
use Rattle.fields.specs.Bytes.{put2, put4, word_of, over}
use Rattle.frame_spec.specs.Written.{header, entry_bytes, position_frame, list_frame, written, buffered}
use Rattle.frame_spec.proofs.Listing.{bytes_length}

-- a field written just behind a front of i bytes
pub over_next : (front field s : List ℕ) (i : ℕ) → length front ≡ i → i + length field ≤ length s → over field i (front ++ drop i s) ≡ (front ++ field) ++ drop (i + length field) s
unfolding over
over_next front [] s i e h = rw (append-nil, add-zero)
over_next front (b ∷ field) s i e h =
    let one : set (front ++ drop i s) i b ≡ (front ++ (b ∷ [])) ++ drop (i + 1) s =
    rw (drop-cons s i 0 (omega arith), set_at front (get_or s i 0) (drop (suc i) s) b i e, append_assoc, add-one) in
    rw one
    (over_next (front ++ (b ∷ [])) field s (i + 1) (length-append front (b ∷ []) ∙ omega arith) (omega arith)
    ∙ (let k : i + 1 + length field ≡ i + suc (length field) = omega arith in rw (append_snoc front b field, k)))

-- a byte written is a field
pub over_byte : (s : List ℕ) (i b : ℕ) → set s i b ≡ over (b ∷ []) i s
unfolding over
over_byte s i b = refl

-- the common fields, one after the other: x what the length left, y the kind, and z the phase, behind the sender
pub over_header : {x y z : List ℕ} (s : List ℕ) (size kind k p : ℕ) → 7 ≤ length s → x ≡ over (put2 size []) 0 s → y ≡ over (put2 kind []) 2 x → z ≡ over (put2 p []) 5 (set y 4 k)
    → z ≡ header size kind k p (drop 7 s)
over_header {x} {y} s size kind k p h e f g =
    let one : x ≡ put2 size (drop 2 s) = e ∙ over_next [] (put2 size []) s 0 refl (omega arith) in
    let two : y ≡ put2 size (put2 kind (drop 4 s)) = f ∙ ap (over (put2 kind []) 2) one ∙ over_next (put2 size []) (put2 kind []) s 2 refl (omega arith) in
    let three : set y 4 k ≡ put2 size (put2 kind (k ∷ drop 5 s)) =
    over_byte y 4 k ∙ ap (over (k ∷ []) 4) two ∙ over_next (put2 size (put2 kind [])) (k ∷ []) s 4 refl (omega arith) in
    g ∙ ap (over (put2 p []) 5) three ∙ over_next (put2 size (put2 kind (k ∷ []))) (put2 p []) s 5 refl (omega arith)

-- the word behind the header: x the word, and y what the header left
pub over_position : (k p : ℕ) (v : ℤ) (s : List ℕ) {x : ℕ} {y z : List ℕ} → 11 ≤ length s → y ≡ header 11 1 k p (drop 7 s) → x ≡ word_of v → z ≡ over (put4 x []) 7 y
    → z ≡ position_frame k p v ++ drop 11 s
over_position k p v s h e f g = rw (g, f, e) (over_next (header 11 1 k p []) (put4 (word_of v) []) s 7 refl (omega arith))

-- fields written one behind the other are one field
over_append : (xs ys : List ℕ) (i : ℕ) (s : List ℕ) → over (xs ++ ys) i s ≡ over ys (i + length xs) (over xs i s)
unfolding over
over_append [] ys i s = rw add-zero
over_append (x ∷ xs) ys i s =
    let k : i + suc (length xs) ≡ i + 1 + length xs = omega arith in
    rw k (over_append xs ys (i + 1) (set s i x))

-- one entry more, behind the first j: y the buffer before it, and x its word
pub over_entry : (E : List ℤ) (s : List ℕ) (j : ℕ) {x : ℕ} {y z : List ℕ} → y ≡ over (entry_bytes E j) 12 s → x ≡ word_of (get_or E j (pos 0)) → z ≡ over (put4 x []) (12 + 4 * j) y
    → z ≡ over (entry_bytes E (j + 1)) 12 s
unfolding entry_bytes
over_entry E s j e f g = rw (g, f, e, add-one, over_append, bytes_length E j)

-- the count and the marks behind the header, and the entries behind them: x what the header left, y the marks, and z the entries
pub over_list : (n k p : ℕ) (t : Table) (s : List ℕ) {x y z : List ℕ} → 12 + 4 * n ≤ length s → x ≡ header (12 + 4 * n) 3 k p (drop 7 s) → y ≡ over (put4 t.marks []) 8 (set x 7 n)
    → z ≡ over (entry_bytes t.entries n) 12 y → z ≡ list_frame n k p t ++ drop (12 + 4 * n) s
over_list n k p t s {x} {y} h e f g =
    let front : List ℕ → List ℕ = header (12 + 4 * n) 3 k p in
    let one : set x 7 n ≡ front (n ∷ drop 8 s) = over_byte x 7 n ∙ ap (over (n ∷ []) 7) e ∙ over_next (front []) (n ∷ []) s 7 refl (omega arith) in
    let two : y ≡ front (n ∷ put4 t.marks (drop 12 s)) = f ∙ ap (over (put4 t.marks []) 8) one ∙ over_next (front (n ∷ [])) (put4 t.marks []) s 8 refl (omega arith) in
    let size = bytes_length t.entries n in
    g ∙ ap (over (entry_bytes t.entries n) 12) two ∙ over_next (front (n ∷ put4 t.marks [])) (entry_bytes t.entries n) s 12 refl (omega arith)
    ∙ rw size

-- ---- the answer, and the buffer after it

pub too_short : (frame s : List ℕ) → length s < length frame → (Err refusal.buffer_too_short ≡ written frame s) × (s ≡ buffered frame s)
unfolding written buffered
too_short frame s h = rw (lt-leb (length frame) (length s) h) (refl, refl)

pub fits_front : (frame s : List ℕ) {out : List ℕ} {size : ℕ} → length frame ≡ size → size ≤ length s → out ≡ frame ++ drop size s
    → (Ok size ≡ written frame s) × (out ≡ buffered frame s)
unfolding written buffered
fits_front frame s {out} {size} e h f = rw (le-leb (length frame) (length s) (omega arith), e) (refl, f)
