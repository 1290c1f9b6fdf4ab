-- Bytes written behind a text. Digits are written from the last to the first: before the turn at i the last k - i digits stand in place, and `rest` has
-- the others (`Spelt`), so that at i = 0 all do.
use mathlib.Core.Path.{◌≡◌, refl, ap, sym, ◌∙◌}
use mathlib.Core.Bool.{Bool, true, false}
use mathlib.Core.Logic.{by_cases}
use mathlib.Core.List.{List, [], ◌∷◌, ◌++◌, append_assoc}
use Prim.Native.Nat.{ℕ, zero, suc, ◌+◌, ◌-◌, ◌/◌, ◌%◌, ◌≤◌, ◌<◌}
use native.Mathlib.Omega.{arith}
use native.Mathlib.Nat.{add-suc, add-zero}
use native.Mathlib.Decide.{dec_le}
use lib.Dec.{leb}
use borrow.Author.Tests.{leb-true, leb-false, le-leb, lt-leb}
use mir.Val.{Val}
use denote.Laws.{Is}
use lib.ListN.{length, take, drop, set, length-set, length-append, take-append-drop}
use lib.Seq.{set_split, take-set-le, append_snoc, take_at, drop_at, take-paste, take-length, length-take-le}
use Rattle.fields.specs.Bytes.{copied}
use Rattle.fields.proofs.Copying.{copied_fits}
use Rattle.texts.specs.Numbers.{hex_digit, spelled}
use Rattle.texts.specs.declared.Text.{Text}
use Rattle.texts.specs.Texts.{bytes_of, Longer, Puts}
use Rattle.texts.specs.contracts.Text.{the_row}
use Rattle.texts.proofs.Digits.{spelled_length}

-- an array of 64 holds 64 bytes
pub full : {vs : List Val} (t : Text) → Is the_row t vs → length t.bytes ≡ 64
full t is = is.1.1.1.0.1.0.1

-- a text has as many bytes as it says
pub text_long : {vs : List Val} (t : Text) → Is the_row t vs → t.len ≤ 64 → length (bytes_of t) ≡ t.len
text_long t is h = length-take-le t.len t.bytes (omega (arith, full t is))

-- ---- a text after a text

-- behind the empty text stands nothing else
pub empty_text : (t : Text) → t.len ≡ 0 → bytes_of t ≡ []
empty_text t e = ap (λ (k : ℕ). take k t.bytes) e

pub from_empty : {t r : Text} {s : List ℕ} {k : ℕ} → t.len ≡ 0 → Longer t s k r → bytes_of r ≡ s
from_empty {t} {s} e l = l.text ∙ ap (λ (n : ℕ). take n t.bytes ++ s) e

pub longer_then : {t r u : Text} {s z : List ℕ} {k m : ℕ} → Longer t s k r → Longer r z m u → Longer t (s ++ z) (k + m) u
longer_then {t} {s} {z} l h =
    record {
      text = h.text ∙ rw l.text (append_assoc (bytes_of t) s z);
      room = omega (arith, l.room, h.room);
    }

pub longer_as : {t r : Text} {s z : List ℕ} {k m : ℕ} → s ≡ z → k ≤ m → Longer t s k r → Longer t z m r
longer_as e h l = record { text = rw (← e) l.text; room = omega (arith, l.room) }

-- ---- what is put

-- where there is room
pub put_fits : {t r : Text} {s : List ℕ} (k : ℕ) → length s ≤ k → t.len + k ≤ 64 → Puts t s r → Longer t s k r
put_fits k l h p = longer_as refl l (p.fits (omega arith))

-- the test for room
pub room_past : (n k : ℕ) → 64 < n → false ≡ leb (n + k) 64
room_past n k h = sym (lt-leb (n + k) 64 (omega arith))

pub room_left : (n k : ℕ) → n ≤ 64 → leb k (64 - n) ≡ leb (n + k) 64
room_left n k h = by_cases (dec_le k (64 - n))
    (λ l. le-leb k (64 - n) l ∙ sym (le-leb (n + k) 64 (omega arith)))
    (λ l. lt-leb k (64 - n) (omega arith) ∙ sym (lt-leb (n + k) 64 (omega arith)))

module _ (n k : ℕ) {b : Bool} (e : b ≡ leb (n + k) 64) where
  pub some_room : b ≡ true → n + k ≤ 64
  some_room f = leb-true (n + k) 64 (sym e ∙ f)

  pub no_room : b ≡ false → 64 < n + k
  no_room f = leb-false (n + k) 64 (sym e ∙ f)

pub puts_all : {t r : Text} {s : List ℕ} → t.len + length s ≤ 64 → Longer t s (length s) r → Puts t s r
puts_all h l = record { fits = λ _. l; full = λ m. absurd (omega arith) }

pub puts_none : {t : Text} {s : List ℕ} → 64 < t.len + length s → Puts t s t
puts_none h = record { fits = λ l. absurd (omega arith); full = λ _. refl }

-- ---- bytes copied behind others

pub copied_behind : (d s : List ℕ) (at : ℕ) → at + length s ≤ length d → take (at + length s) (copied d at s) ≡ take at d ++ s
copied_behind d s at fits = rw (copied_fits d at s fits, take-paste d at s (length s) (omega arith) (omega arith), take-length s)

-- ---- digits, the last one first

pub record Spelt (b k x at : ℕ) (from bytes : List ℕ) (rest i : ℕ) : Type 0 where
  pub inside : i ≤ k
  pub long : length bytes ≡ 64
  pub before : take at bytes ≡ take at from
  pub behind : spelled b i rest ++ drop (at + i) bytes ≡ spelled b k x ++ drop (at + k) from

-- a byte stored at n, and what stands behind it
stored : (l : List ℕ) (n v : ℕ) → n < length l → drop n (set l n v) ≡ v ∷ drop (suc n) l
stored l n v h = ap (drop n) (set_split l n v h) ∙ drop_at (take n l) (v ∷ drop (suc n) l) n (length-take-le n l (omega arith))

pub spelt_more : {b k x at : ℕ} {from bytes : List ℕ} {rest i : ℕ} → at + k < 64 → 0 < i → Spelt b k x at from bytes rest i
    → Spelt b k x at from (set bytes (at + (i - 1)) (hex_digit (rest % b))) (rest / b) (i - 1)
unfolding spelled
spelt_more {i = zero} fits p s = absurd (omega arith)
spelt_more {b} {at} {bytes} {rest} {i = suc i} fits p s =
    let e : suc i - 1 ≡ i = omega arith in
    rw e
    record {
      inside = omega (arith, s.inside);
      long = length-set bytes (at + i) _ ∙ s.long;
      before = take-set-le at bytes (at + i) _ (omega arith) ∙ s.before;
      behind = rw (stored bytes (at + i) (hex_digit (rest % b)) (omega (arith, s.long, s.inside)), ← add-suc at i, ← append_snoc) s.behind;
    }

-- all of them, and behind them what was stored at at + k before
pub spelt_all : {b k x at rest : ℕ} {bytes : List ℕ} (d : List ℕ) (after : ℕ) → at + k < length d → Spelt b k x at (set d (at + k) after) bytes rest 0
    → take (at + k + 1) bytes ≡ take at d ++ (spelled b k x ++ (after ∷ []))
unfolding spelled
spelt_all {b} {k} {x} {at} {bytes} d after l s =
    let text = take at d ++ (spelled b k x ++ (after ∷ [])) in
    let long : length text ≡ at + k + 1 = simp (length-append, spelled_length) (omega (arith, length-take-le at d (omega arith))) in
    let front : take at bytes ≡ take at d = s.before ∙ take-set-le at d (at + k) after (omega arith) in
    let back : drop at bytes ≡ (spelled b k x ++ (after ∷ [])) ++ drop (suc (at + k)) d =
    rw (append_assoc, ← stored d (at + k) after l) (rw (add-zero at) at s.behind) in
    let is : bytes ≡ text ++ drop (suc (at + k)) d = sym (take-append-drop at bytes) ∙ rw (front, back) (simp append_assoc) in
    ap (take (at + k + 1)) is ∙ take_at text _ (at + k + 1) long

-- ---- digits that are put

module _ (b k x after : ℕ) {z : List ℕ} (e : spelled b k x ≡ z) where
  with_after : length (z ++ (after ∷ [])) ≡ k + 1
  with_after = rw (← e) (simp (length-append, spelled_length))

  pub digits_put : {t r : Text} → t.len + (k + 1) ≤ 64 → Longer t (spelled b k x ++ (after ∷ [])) (k + 1) r → Puts t (z ++ (after ∷ [])) r
  digits_put h l =
      let n = with_after in
      puts_all (omega arith) (longer_as (ap (λ (s : List ℕ). s ++ (after ∷ [])) e) (omega arith) l)

  pub digits_none : {t : Text} → 64 < t.len + (k + 1) → Puts t (z ++ (after ∷ [])) t
  digits_none h = let n = with_after in puts_none (omega arith)
