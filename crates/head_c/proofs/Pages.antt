-- What C reads of heads: a block's reading is that of its seat, and of blocks side by side each is looked for in its own words.
use mathlib.Core.Path.{◌≡◌, ap, ap₂, sym, ◌∙◌}
use mathlib.Core.List.{List}
use Prim.Native.Nat.{ℕ, ◌+◌, ◌-◌, ◌*◌, ◌/◌, ◌≤◌, ◌<◌}
use native.Mathlib.Omega.{arith}
use lib.ListN.{length, take, drop}
use lib.Ieee.{Float}
use borrow.Author.Tests.{lt-ltb, le-ltb}
use Rattle.head_spec.specs.declared.Seat.{Seat}
use Rattle.frame_spec.specs.Length.{Written}
use Rattle.head_lent.specs.Answers.{written_number, written_or}
use Rattle.reading.specs.declared.Reading.{Reading}
use Rattle.reading.specs.Readings.{reading_of, head_reading}
use Rattle.hostpage.specs.Page.{page_answer, page_in}
use Rattle.hostpage.proofs.Pages.{many_heads}
use Rattle.reading.proofs.Heads.{reading_holds}
use Rattle.head_c.specs.Blocks.{seat_of, head_of, offer_of}
use Rattle.head_c.specs.Pages.{reading_kind, floats_or, block_at, reading_at, readings_of, MadeReads}
use Rattle.head_c.proofs.Made.{made_offers}

-- ---- a head's reading

pub reads : {s : Seat} {r : Reading} (w : List ℕ) → s ≡ seat_of w → r ≡ reading_of s.kept → r ≡ head_reading (head_of w)
unfolding head_of
reads w e q = q ∙ ap (λ (x : Seat). reading_of x.kept) e

-- r was read and found to be x
pub shown : {r x y : Reading} {n : ℕ} {v : List Float} (old : List Float) → r ≡ y → r ≡ x → n ≡ reading_kind x → v ≡ floats_or x old
    → (n ≡ reading_kind y) × (v ≡ floats_or y old)
shown old p q a b =
    let same = sym q ∙ p in
    (a ∙ ap reading_kind same, b ∙ ap (λ (z : Reading). floats_or z old) same)

pub made_reads : MadeReads
made_reads w m = let (x, O) = made_offers w m in (x, (O, reading_holds (head_of w) (offer_of w) x O))

-- ---- blocks side by side

module _ (w : List ℕ) (k : ℕ) where
  pub reading_none : length w / 1116 ≤ k → Reading.Unknown ≡ reading_at w k
  unfolding reading_at
  reading_none h = rw (le-ltb k (length w / 1116) h)

  -- its words as they are cut out
  pub cut_out : {s : Seat} → s ≡ seat_of (take (1116 * k + 1116 - 1116 * k) (drop (1116 * k) w)) → s ≡ seat_of (block_at w k)
  cut_out e = let n : 1116 * k + 1116 - 1116 * k ≡ 1116 = omega arith in e ∙ ap (λ (m : ℕ). seat_of (take m (drop (1116 * k) w))) n

  pub reading_there : {r : Reading} → k < length w / 1116 → r ≡ head_reading (head_of (block_at w k)) → r ≡ reading_at w k
  unfolding reading_at
  reading_there h e = rw (lt-ltb k (length w / 1116) h) e

-- ---- the page

-- a page of readings rs was asked for, those of the blocks, with count n that is m; a is the answer, and b the buffer
module _ (w d : List ℕ) (n : ℕ) {m : ℕ} {rs : List Reading} (e : m ≡ n) (q : rs ≡ readings_of w) where
  pub paged : {a x : Written} {b : List ℕ} {r l : ℕ} (old : ℕ) → a ≡ page_answer m rs d → b ≡ page_in m rs d → a ≡ x → r ≡ written_number x → l ≡ written_or x old
      → (r ≡ written_number (page_answer n (readings_of w) d)) × (b ≡ page_in n (readings_of w) d) × (l ≡ written_or (page_answer n (readings_of w) d) old)
  paged old p s t u v =
      let same = sym t ∙ p ∙ ap₂ (λ (k : ℕ) (l : List Reading). page_answer k l d) e q in
      (u ∙ ap written_number same, s ∙ ap₂ (λ (k : ℕ) (l : List Reading). page_in k l d) e q, v ∙ ap (λ (y : Written). written_or y old) same)

-- no ring has so many heads
pub too_many : (n : ℕ) (rs : List Reading) (d : List ℕ) (old : ℕ) → 32 < n
    → (1 ≡ written_number (page_answer n rs d)) × (d ≡ page_in n rs d) × (old ≡ written_or (page_answer n rs d) old)
too_many n rs d old h =
    let g = many_heads n rs d h in
    (ap written_number g.0, g.1, ap (λ (y : Written). written_or y old) g.0)
