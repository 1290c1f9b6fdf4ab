-- A page grows by a line.
use Rattle.std.specs.Prelude.{Ok, Err}
use mathlib.Core.Path.{◌≡◌, refl, sym, ap, ◌∙◌}
use mathlib.Core.List.{List, ◌++◌}
use mathlib.Core.Logic.{◌⊎◌, inl, inr}
use Prim.Native.Nat.{ℕ, zero, suc, ◌+◌, ◌≤◌, ◌<◌}
use native.Mathlib.Omega.{arith}
use native.Mathlib.Numerals.{add-one}
use native.Mathlib.Nat.{eq-or-lt_of_le, le_of_eq, le_of_suc-le-suc}
use lib.ListN.{length, get_or, drop, length-append}
use lib.Seq.{take_at, drop-append-add, drop-drop}
use mathlib.Core.Bool.{true, false}
use borrow.Author.Tests.{le-leb, lt-leb}
use Rattle.reading.specs.declared.Reading.{Reading}
use Rattle.terms.specs.Sizes.{is_count}
use Rattle.fields.specs.Bytes.{copied}
use Rattle.frame_spec.specs.Length.{Written}
use Rattle.frame_spec.specs.Written.{written, buffered}
use Rattle.hostpage.specs.Page.{reading_line, page_of, page_answer, page_in}

pub page_none : (rs : List Reading) → length (page_of 0 rs) ≡ 0
unfolding page_of
page_none rs = refl

pub page_next : (k : ℕ) (rs : List Reading) → page_of (k + 1) rs ≡ page_of k rs ++ reading_line k (get_or rs k Reading.Unknown)
unfolding page_of
page_next k rs = ap (λ (n : ℕ). page_of n rs) (add-one k)

pub next_length : (k : ℕ) (rs : List Reading) → length (page_of (k + 1) rs) ≡ length (page_of k rs) + length (reading_line k (get_or rs k Reading.Unknown))
next_length k rs = ap length (page_next k rs) ∙ length-append (page_of k rs) (reading_line k (get_or rs k Reading.Unknown))

pub page_grows : (k n : ℕ) (rs : List Reading) → k ≤ n → length (page_of k rs) ≤ length (page_of n rs)
page_grows k zero rs h = let e : k ≡ 0 = omega arith in le_of_eq (ap (λ (x : ℕ). length (page_of x rs)) e)
page_grows k (suc n) rs h = go (eq-or-lt_of_le h) (λ l. page_grows k n rs l)
  where
    go : (k ≡ suc n) ⊎ (k < suc n) → (k ≤ n → length (page_of k rs) ≤ length (page_of n rs)) → length (page_of k rs) ≤ length (page_of (suc n) rs)
    go (inl e) below = le_of_eq (ap (λ (x : ℕ). length (page_of x rs)) e)
    go (inr l) below =
        let r : length (page_of k rs) ≤ length (page_of n rs) = below (le_of_suc-le-suc l) in
        let s : length (page_of (suc n) rs) ≡ length (page_of n rs) + length (reading_line n (get_or rs n Reading.Unknown)) = ap (λ (x : ℕ). length (page_of x rs)) (sym (add-one n)) ∙ next_length n rs in
        omega arith

-- ---- a page at the front of a buffer

abbrev pub front : List ℕ → List ℕ → List ℕ
front text d = text ++ drop (length text) d

pub front_none : (rs : List Reading) (d : List ℕ) → d ≡ front (page_of 0 rs) d
unfolding page_of
front_none rs d = refl

-- a line copied in behind a page p that stands at the front of d
grown : (p s d : List ℕ) → length p + length s ≤ length (front p d) → copied (front p d) (length p) s ≡ front (p ++ s) d
unfolding copied
grown p s d h =
    rw (le-leb (length p + length s) (length (front p d)) h)
    (ap (λ (l : List ℕ). l ++ s ++ drop (length p + length s) (front p d)) (take_at p (drop (length p) d) (length p) refl)
    ∙ ap (λ (l : List ℕ). p ++ s ++ l) (drop-append-add p (drop (length p) d) (length s) ∙ drop-drop (length s) (length p) d)
    ∙ ap (λ (n : ℕ). p ++ s ++ drop n d) (sym (length-append p s)))

module _ (k : ℕ) (rs : List Reading) (d : List ℕ) {b s : List ℕ} {at : ℕ} where
  pub front_next : at ≡ length (page_of k rs) → b ≡ front (page_of k rs) d → s ≡ reading_line k (get_or rs k Reading.Unknown) → at + length s ≤ length b
      → copied b at s ≡ front (page_of (k + 1) rs) d
  front_next p q e h = rw (p, q, e, page_next k rs) (grown (page_of k rs) (reading_line k (get_or rs k Reading.Unknown)) d (rw (p, q, e) at h))

-- ---- the answers

-- an answer, and the buffer with it
abbrev pub Given : ℕ → List Reading → List ℕ → Written → List ℕ → Type 0
Given n rs d r b = (r ≡ page_answer n rs d) × (b ≡ page_in n rs d)

pub is_count_lem : (n : ℕ) → 1 ≤ n → n ≤ 32 → is_count n ≡ true
unfolding is_count
is_count_lem n l h = rw (le-leb 1 n l, le-leb n 32 h)

module _ (n : ℕ) (rs : List Reading) (d : List ℕ) where
  no_count : is_count n ≡ false → Given n rs d (Err 1) d
  unfolding page_answer page_in
  no_count e = (rw e, rw e)

  pub no_heads : n ≡ 0 → Given n rs d (Err 1) d
  unfolding is_count
  no_heads e = no_count (rw e)

  pub many_heads : 32 < n → Given n rs d (Err 1) d
  unfolding is_count
  many_heads h = let l : 1 ≤ n = omega arith in no_count (rw (le-leb 1 n l, lt-leb n 32 h))

  pub short : 1 ≤ n → n ≤ 32 → length d < length (page_of n rs) → Given n rs d (Err 24) d
  unfolding page_answer page_in written buffered
  short l h s = let t = lt-leb (length (page_of n rs)) (length d) s in (rw (is_count_lem n l h, t), rw (is_count_lem n l h, t))

  pub fits : {len : ℕ} {b : List ℕ} → 1 ≤ n → n ≤ 32 → length (page_of n rs) ≤ length d → len ≡ length (page_of n rs) → b ≡ buffered (page_of n rs) d
      → Given n rs d (Ok len) b
  unfolding page_answer page_in written
  fits l h s e q =
      let t = le-leb (length (page_of n rs)) (length d) s in
      (rw (is_count_lem n l h, t) (ap Ok e), rw (is_count_lem n l h) q)

-- a page that fits, at the front
pub front_is : (p d : List ℕ) → length p ≤ length d → front p d ≡ buffered p d
unfolding buffered
front_is p d h = rw (le-leb (length p) (length d) h)
