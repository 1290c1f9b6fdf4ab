-- Fields of bytes. A number is its lowest byte and 256 times the rest, so what is written reads back, and what was read is written again. A word
-- and its number with a sign are each other's bits, as the machine has them (`to_z`, `of_z`).
use mathlib.Core.Path.{◌≡◌, refl, ap}
use mathlib.Core.Bool.{Bool, true, false, cond}
use mathlib.Core.List.{List, [], ◌∷◌}
use Prim.Native.Nat.{ℕ, suc, ◌+◌, ◌-◌, ◌*◌, ◌/◌, ◌%◌, ◌≤◌, ◌<◌}
use native.Mathlib.Omega.{arith}
use native.Mathlib.Nat.{add_assoc, div-div-eq-div-mul, mod-eq_of_lt}
use lib.Dec.{ltb}
use lib.IntN.{ℤ, pos, negsuc}
use lib.ListN.{length, get_or, set, get_or-eq_default}
use lib.Seq.{set_out}
use mir.Syntax.{w32}
use mir.Val.{sel, to_z, of_z}
use mir.Facts.{to_z-of_z, of_z-to_z, Fits-of_z}
use borrow.Author.Tests.{lt-ltb, le-ltb}
use Rattle.terms.specs.Positions.{is_position}
use Rattle.terms.proofs.Machine.{position_fits}
use Rattle.fields.specs.Bytes.{put2, put4, signed_of, word_of, over}

-- ---- numbers of two and four bytes

-- dividing by 256 once more
div_again : (x : ℕ) → (x / 256 / 256 ≡ x / 65536) × (x / 65536 / 256 ≡ x / 16777216)
div_again x = (div-div-eq-div-mul x 256 256, div-div-eq-div-mul x 65536 256)

-- a field written reads back
pub back2 : (x : ℕ) → x < 65536 → x % 256 + 256 * (x / 256 % 256) ≡ x
back2 x h = omega arith

pub back4 : (x : ℕ) → x < 4294967296 → x % 256 + 256 * (x / 256 % 256) + 65536 * (x / 65536 % 256) + 16777216 * (x / 16777216 % 256) ≡ x
back4 x h =
    let top : x / 16777216 < 256 = omega arith in
    rw (mod-eq_of_lt top, ← (div_again x).1, ← (div_again x).0) (omega arith)

-- the lowest byte, and the rest
low_byte : (a x : ℕ) → a < 256 → ((a + 256 * x) % 256 ≡ a) × ((a + 256 * x) / 256 ≡ x)
low_byte a x h = omega arith

-- bytes read are the bytes written
pub same2 : (a b : ℕ) (rest : List ℕ) → a < 256 → b < 256 → put2 (a + 256 * b) rest ≡ a ∷ b ∷ rest
same2 a b rest h k = rw ((low_byte a b h).0, (low_byte a b h).1, mod-eq_of_lt k)

pub same4 : (a b c d : ℕ) (rest : List ℕ) → a < 256 → b < 256 → c < 256 → d < 256
    → put4 (a + 256 * b + 65536 * c + 16777216 * d) rest ≡ a ∷ b ∷ c ∷ d ∷ rest
same4 a b c d rest h k l m =
    let z = c + 256 * d in
    let y = b + 256 * z in
    let x = a + 256 * y in
    let e : a + 256 * b + 65536 * c + 16777216 * d ≡ x = omega arith in
    rw (e, ← (div_again x).1, ← (div_again x).0, (low_byte a y h).0, (low_byte a y h).1, (low_byte b z k).0, (low_byte b z k).1, (low_byte c d l).0, (low_byte c d l).1, mod-eq_of_lt m)

-- ---- bytes of a slice

-- past its end a byte reads as 0, and nothing is written
pub reads_past : (s : List ℕ) (i k : ℕ) → length s ≤ i → get_or s (i + k) 0 ≡ 0
reads_past s i k h = get_or-eq_default s 0 (omega arith)

pub writes_past : (bs : List ℕ) (i : ℕ) (s : List ℕ) → length s ≤ i → over bs i s ≡ s
unfolding over
writes_past [] i s h = refl
writes_past (b ∷ bs) i s h = rw (set_out s i b h) (writes_past bs (i + 1) s (omega arith))

-- four bytes written one after the other, p, q and r what the second, the third and the fourth left
pub one_by_one : {p q r : List ℕ} (s : List ℕ) (i a b c d : ℕ) → p ≡ set (set s i a) (i + 1) b → q ≡ set p (i + 2) c → r ≡ set q (i + 3) d → r ≡ over (a ∷ b ∷ c ∷ d ∷ []) i s
unfolding over
one_by_one s i a b c d e f g = rw (g, f, e) (simp add_assoc)

-- ---- numbers with a sign

pub signed_low : (x : ℕ) → x < 2147483648 → signed_of x ≡ pos x
unfolding signed_of
signed_low x h = rw (lt-ltb x 2147483648 h)

pub signed_high : (x : ℕ) → 2147483648 ≤ x → signed_of x ≡ negsuc (4294967295 - x)
unfolding signed_of
signed_high x h = rw (le-ltb x 2147483648 h)

-- the number is what the machine reads in a word, and the word is the number's bits
pub to_z_signed : (x : ℕ) → to_z w32 x ≡ signed_of x
unfolding signed_of
to_z_signed x = go (ltb x 2147483648)
  where
    go : (t : Bool) → sel t (pos x) (negsuc (4294967296 - suc x)) ≡ cond t (pos x) (negsuc (4294967295 - x))
    go true = refl
    go false = ap negsuc (omega arith)

pub of_z_word : (v : ℤ) → of_z w32 v ≡ word_of v
unfolding word_of
of_z_word (pos n) = refl
of_z_word (negsuc n) = omega arith

pub signed_back : (v : ℤ) → is_position v ≡ true → signed_of (word_of v) ≡ v
signed_back v h = rw (← to_z_signed (word_of v), ← of_z_word v) (to_z-of_z (position_fits v h))

pub word_below : (v : ℤ) → is_position v ≡ true → word_of v < 4294967296
word_below v h = rw (← of_z_word v) (Fits-of_z (position_fits v h)).fits

pub word_back : (x : ℕ) → x < 4294967296 → word_of (signed_of x) ≡ x
word_back x h = rw (← of_z_word (signed_of x), ← to_z_signed x) (of_z-to_z {w = w32} (record { fits = h }))
