-- A record put into a block, and hearing, leave words 16 to 23 as they were, whatever is answered; but an accepted frame clears word 18, and so ends an offer.
use Rattle.std.specs.Prelude.{None, Some}
use mathlib.Core.Path.{◌≡◌, refl, ap, sym, ◌∙◌}
use mathlib.Core.List.{List, [], ◌∷◌}
use mathlib.Core.Logic.{◌≢◌, by_cases}
use Prim.Native.Nat.{ℕ, zero, suc, ◌+◌, ◌*◌, ◌-◌, ◌≤◌, ◌<◌}
use native.Mathlib.Omega.{arith}
use native.Mathlib.Decide.{dec_lt}
use lib.ListN.{length, get_or, set, take, length-append, length-set, get_or-append}
use lib.Seq.{get_or-append-add, get_or-drop, get_or-take, get_or-set_other, slice, length-paste}
use Rattle.terms.specs.Refusals.{leaves}
use Rattle.terms.specs.Entry.{Entry}
use Rattle.fields.specs.Bytes.{word_of}
use Rattle.frame_spec.specs.Said.{Meaning, refused, collected, listed, confessed}
use Rattle.frame_spec.specs.Proper.{AcceptedMeaning}
use Rattle.head_spec.specs.declared.Head.{Head}
use Rattle.head_spec.specs.declared.Answer.{Answer}
use Rattle.head_spec.specs.Calls.{said_to, hear, Delivery}
use Rattle.head_c.specs.Blocks.{IsBlock, head_of, words_of, seat_words, with_head, with_answer, marked, heard_on, block_with, heard_in, heard_each}
use Rattle.head_c.proofs.Copying.{copied_before}
use Rattle.head_c.proofs.Putting.{words_long, first, second, third, first_long, second_long}
use Rattle.head_c.proofs.Hearing.{heard_below, heard_past}

-- what holds of a block whether a call is taken or refused
pub either_way : (P : List ℕ → Type 0) (c : ℕ) {new old : List ℕ} → P new → P old → P (leaves c new old)
either_way P zero n o = n
either_way P (suc c) n o = o

module _ (w : List ℕ) (block : IsBlock w) (i : ℕ) (from : 16 ≤ i) (to : i < 24) where
  pub put_registers : (h : Head) → get_or (with_head h w) i 0 ≡ get_or w i 0
  unfolding with_head
  put_registers h =
      let j = i - 16 in
      let e : i ≡ 16 + j = omega arith in
      let longer = length-append (second h w) (h.links.confessed ∷ h.links.listed ∷ h.links.marks) in
      get_or-append (third h w) _ 0 i (omega (arith, second_long h w block, longer))
      ∙ get_or-append (second h w) _ 0 i (omega (arith, second_long h w block))
      ∙ get_or-append (first h w) _ 0 i (omega (arith, first_long h w block))
      ∙ ap (λ (n : ℕ). get_or (first h w) n 0) e
      ∙ get_or-append-add (seat_words h.seat) (slice 16 24 w) j 0
      ∙ get_or-drop 16 (take 24 w) j 0
      ∙ get_or-take 24 w (16 + j) 0 (omega arith)
      ∙ ap (λ (n : ℕ). get_or w n 0) (sym e)

  -- start, restart and adopting
  pub after_registers : (a : Answer) → get_or (with_answer w a) i 0 ≡ get_or w i 0
  unfolding with_answer
  after_registers a = either_way (λ x. get_or x i 0 ≡ get_or w i 0) a.refusal (put_registers a.head) refl

  -- hearing: but for word 18, since an accepted frame ends an offer
  abbrev w₀ : List ℕ
  w₀ = set w 18 0

  twice_registers : (at k : ℕ) → 24 ≤ at → get_or (marked at k (heard_on k w)) i 0 ≡ get_or w₀ i 0
  twice_registers at k far = get_or-set_other (heard_on k w) at i _ 0 (omega arith) ∙ get_or-set_other w₀ 24 i _ 0 (omega arith)

  pub changed_registers : (k : ℕ) → k < 32 → (m : Meaning) → AcceptedMeaning m → get_or (block_with w k m) i 0 ≡ get_or w₀ i 0
  changed_registers k b (refused c) a = absurd a
  changed_registers k b (collected None) a = get_or-set_other w₀ 24 i _ 0 (omega arith)
  changed_registers k b (collected (Some v)) a =
      get_or-set_other (marked 25 k (heard_on k w)) (26 + k) i (word_of v) 0 (omega arith) ∙ twice_registers 25 k (omega arith)
  changed_registers k b confessed a = twice_registers 58 k (omega arith)
  changed_registers k b (listed t) a =
      let two = marked 59 k (heard_on k w) in
      let l = set two (60 + k) t.marks in
      let long : length l ≡ 1116 = simp length-set block in
      copied_before l (words_of t.entries) (92 + 32 * k) 32 0 (words_long t.entries) (omega arith) i (omega arith)
      ∙ get_or-set_other two (60 + k) i t.marks 0 (omega arith)
      ∙ twice_registers 59 k (omega arith)

  module _ (other : i ≢ 18) where
    stays_registers : (k : ℕ) → k < 32 → (m : Meaning) → get_or (block_with w k m) i 0 ≡ get_or w i 0
    stays_registers k b (refused c) = refl
    stays_registers k b (collected x) = changed_registers k b (collected x) tt ∙ get_or-set_other w 18 i 0 0 other
    stays_registers k b (listed t) = changed_registers k b (listed t) tt ∙ get_or-set_other w 18 i 0 0 other
    stays_registers k b confessed = changed_registers k b confessed tt ∙ get_or-set_other w 18 i 0 0 other

    pub heard_registers : (k : ℕ) (m : Meaning) → get_or (heard_in w k m) i 0 ≡ get_or w i 0
    heard_registers k m = by_cases (dec_lt k 32)
        (λ l. rw (heard_below w k m l) (stays_registers k l m))
        (λ d. rw (heard_past w k m (omega arith)) refl)

-- ---- hearing a batch

pub heard_block_lem : (w : List ℕ) → IsBlock w → (k : ℕ) (m : Meaning) → IsBlock (heard_in w k m)
heard_block_lem w block k m = by_cases (dec_lt k 32)
    (λ l. rw (heard_below w k m l) (go l m))
    (λ d. rw (heard_past w k m (omega arith)) block)
  where
    go : k < 32 → (x : Meaning) → IsBlock (block_with w k x)
    go l (refused c) = block
    go l (collected None) = simp length-set block
    go l (collected (Some v)) = simp length-set block
    go l confessed = simp length-set block
    go l (listed t) =
        let s = set (marked 59 k (heard_on k w)) (60 + k) t.marks in
        let long : length s ≡ 1116 = simp length-set block in
        length-paste s (92 + 32 * k) (words_of t.entries) 32 (omega arith) (omega (arith, words_long t.entries)) ∙ long

pub each_registers : (D : List Delivery) (w : List ℕ) → IsBlock w → (i : ℕ) → 16 ≤ i → i < 24 → i ≢ 18 → get_or (heard_each w D) i 0 ≡ get_or w i 0
unfolding heard_each
each_registers [] w block i from to other = refl
each_registers (d ∷ D) w block i from to other =
    let m = said_to (head_of w).seat d.link d.bytes in
    either_way (λ x. get_or (heard_each x D) i 0 ≡ get_or w i 0) (hear (head_of w) d.link d.bytes).refusal
    (each_registers D (heard_in w d.link m) (heard_block_lem w block d.link m) i from to other ∙ heard_registers w block i from to other d.link m)
    (each_registers D w block i from to other)
