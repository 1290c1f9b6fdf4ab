-- Hearing in a block: it changes what hearing changes of the record that the block is, for all that a frame can say, and the code changes just that.
use Rattle.std.specs.Prelude.{None, Some}
use mathlib.Core.Path.{◌≡◌, refl, ap, sym, ◌∙◌}
use mathlib.Core.Logic.{by_cases}
use mathlib.Core.Bool.{Bool, true, false, cond}
use mathlib.Core.List.{List}
use Prim.Native.Nat.{ℕ, zero, suc, ◌+◌, ◌*◌, ◌≤◌, ◌<◌}
use native.Mathlib.Omega.{arith}
use native.Mathlib.Decide.{ℕ_discrete, dec_lt}
use lib.Dec.{ltb}
use lib.ListN.{get_or, set, length-set, get_or-replicate}
use lib.Seq.{set_out, get_or-set_same, get_or-set_other}
use lib.IntN.{pos}
use borrow.Author.Tests.{lt-ltb, le-ltb}
use Rattle.terms.specs.Refusals.{leaves, unless_refused}
use Rattle.terms.specs.Entry.{Entry}
use Rattle.fields.specs.Bytes.{at4, signed_of, signed_at}
use Rattle.marks.specs.Marks.{with_mark}
use Rattle.marks.proofs.Marks.{with_past}
use Rattle.entries.specs.Entries.{zeros, numbers}
use Rattle.entries.proofs.Entries.{numbers_length}
use Rattle.frame_check.specs.Check.{Kind, position, silence, list, confession, unknown, kind_field}
use Rattle.frame_spec.specs.Said.{Meaning, refused, collected, listed, confessed, rest_field, entries_in, refusal_of, table_in, meaning, said}
use Rattle.head_spec.specs.declared.Head.{Head}
use Rattle.head_spec.specs.declared.Answer.{Answer}
use Rattle.head_spec.specs.Calls.{answer, said_to, hear_refusal, taken, hear}
use Rattle.head_hear.specs.Steps.{link_refusal}
use Rattle.head_hear.proofs.OneLink.{link_says, answered, link_answered}
use Rattle.head_c.specs.Blocks.{IsBlock, numbers_at, list_at, head_of, block_with, heard_in, Hears}
use Rattle.head_c.proofs.Changes.{set_apart, null_is, position_is, list_is, confession_is}
use Rattle.head_c.proofs.Copying.{up_to_long}
use Rattle.head_c.proofs.Blocks.{Fits32, signed_fits, FitNumbers, FitEntry}

-- ---- what hearing changes

-- what is said, with numbers of 32 bits
abbrev pub FitMeaning : Meaning → Type 0
FitMeaning (refused c) = Unit {0}
FitMeaning (collected e) = FitEntry e
FitMeaning (listed t) = FitNumbers t.entries
FitMeaning confessed = Unit {0}

-- a link from 32 on has no place in a record either
module _ (w : List ℕ) (k : ℕ) (past : 32 ≤ k) where
  taken_past : (m : Meaning) → head_of w ≡ taken (head_of w) k m
  unfolding head_of numbers_at
  taken_past m = sym (go m)
    where
      h : Head
      h = head_of w

      unmarked : (x : ℕ) → with_mark x k ≡ x
      unmarked x = with_past x k past

      go : (m : Meaning) → taken h k m ≡ h
      go (refused c) = refl
      go (collected None) = rw (unmarked h.heard)
      go (collected (Some v)) =
          let entries = set_out h.list.entries k v (omega (arith, up_to_long 32 (λ j. signed_of (get_or w (26 + j) 0)))) in
          rw (unmarked h.heard, unmarked h.list.marks, entries)
      go (listed t) =
          let marks = set_out h.links.marks k t.marks (omega (arith, up_to_long 32 (λ j. get_or w (60 + j) 0))) in
          let lists = set_out h.lists k (record { entries = t.entries }) (omega (arith, up_to_long 32 (list_at w))) in
          rw (unmarked h.heard, unmarked h.links.listed, marks, lists)
      go confessed = rw (unmarked h.heard, unmarked h.links.confessed)

pub heard_is : (w : List ℕ) → IsBlock w → (k : ℕ) (m : Meaning) → FitMeaning m → head_of (heard_in w k m) ≡ taken (head_of w) k m
unfolding heard_in
heard_is w block k m F = by_cases (dec_lt k 32)
    (λ l. rw (lt-ltb k 32 l) (go l m F))
    (λ d. let past : 32 ≤ k = omega arith in rw (le-ltb k 32 past) (taken_past w k past m))
  where
    -- without an offer the block is the same record
    w₀ : List ℕ
    w₀ = set w 18 0

    block₀ : IsBlock w₀
    block₀ = length-set w 18 0 ∙ block

    lapsing : (m : Meaning) {h : Head} → h ≡ taken (head_of w₀) k m → h ≡ taken (head_of w) k m
    lapsing m e = e ∙ ap (λ (x : Head). taken x k m) (set_apart w 18 0 (omega arith) (omega arith))

    go : k < 32 → (m : Meaning) → FitMeaning m → head_of (block_with w k m) ≡ taken (head_of w) k m
    go l (refused c) F = refl
    go l (collected None) F = lapsing (collected None) (null_is w₀ block₀ k l)
    go l (collected (Some v)) F = lapsing (collected (Some v)) (position_is w₀ block₀ k l v F)
    go l (listed t) F = lapsing (listed t) (list_is w₀ block₀ k l t F)
    go l confessed F = lapsing confessed (confession_is w₀ block₀ k l)

-- ---- what a frame says fits

number_fits : (s : List ℕ) (n j : ℕ) → j < 32 → Fits32 (get_or (numbers s n) j (pos 0))
unfolding numbers zeros
number_fits s zero j l = rw (get_or-replicate 32 j (pos 0) (pos 0) l) (omega arith)
number_fits s (suc n) j l = go (ℕ_discrete j n) (number_fits s n j l)
  where
    go : Dec (j ≡ n) → Fits32 (get_or (numbers s n) j (pos 0)) → Fits32 (get_or (set (numbers s n) n (signed_at s (4 * n))) j (pos 0))
    go (yes q) before = rw (q, get_or-set_same (numbers s n) n (signed_at s (4 * n)) (pos 0) (omega (arith, numbers_length s n))) (signed_fits _)
    go (no d) before = rw (get_or-set_other (numbers s n) n j (signed_at s (4 * n)) (pos 0) d) before

said_fits : (n p r k : ℕ) (s : List ℕ) → FitMeaning (said n p r k s)
unfolding said table_in
said_fits n p r k s = go (refusal_of n p r k s) (kind_field s)
  where
    go : (c : ℕ) (K : Kind) → FitMeaning (unless_refused refused c (meaning K n (rest_field s)))
    go zero position = signed_fits (at4 (rest_field s) 0)
    go zero silence = tt
    go zero list = record { long = numbers_length (entries_in (rest_field s)) n; each = number_fits (entries_in (rest_field s)) n }
    go zero confession = tt
    go zero unknown = tt
    go (suc c) K = tt

-- ---- the promise of hearing

module _ (w : List ℕ) (block : IsBlock w) (k : ℕ) (s : List ℕ) where
  pub head_heard : head_of (leaves (hear (head_of w) k s).refusal (heard_in w k (said_to (head_of w).seat k s)) w) ≡ (hear (head_of w) k s).head
  unfolding hear
  head_heard = go (hear_refusal (head_of w) k s)
    where
      m : Meaning
      m = said_to (head_of w).seat k s

      go : (c : ℕ) → let a = answer c (taken (head_of w) k m) (head_of w) in head_of (leaves a.refusal (heard_in w k m) w) ≡ a.head
      go zero = let x = (head_of w).seat in heard_is w block k m (said_fits x.n x.phase x.round k s)
      go (suc c) = refl

-- ---- what the code makes of a block

pub heard_below : (w : List ℕ) (k : ℕ) (m : Meaning) → k < 32 → heard_in w k m ≡ block_with w k m
unfolding heard_in
heard_below w k m l = rw (lt-ltb k 32 l)

pub heard_past : (w : List ℕ) (k : ℕ) (m : Meaning) → 32 ≤ k → heard_in w k m ≡ w
unfolding heard_in
heard_past w k m l = rw (le-ltb k 32 l)

-- a refusal changes nothing
pub heard_refused : (w : List ℕ) (k c : ℕ) → heard_in w k (refused c) ≡ w
unfolding heard_in
heard_refused w k c = go (ltb k 32)
  where
    go : (b : Bool) → cond b w w ≡ w
    go true = refl
    go false = refl

module _ (w : List ℕ) (block : IsBlock w) (k : ℕ) (s : List ℕ) where
  abbrev h : Head
  h = head_of w

  -- what the link says changes what the frame alone does, unless hearing is refused
  pub link_block : heard_in w k (link_says h k s) ≡ leaves (hear h k s).refusal (heard_in w k (said_to h.seat k s)) w
  link_block =
      go (link_refusal h.seat.ended h.seat.n h.heard k) (said_to h.seat k s)
      ∙ ap (λ (a : Answer). leaves a.refusal (heard_in w k (said_to h.seat k s)) w) (link_answered h k s)
    where
      go : (c : ℕ) (m : Meaning) → let x = unless_refused refused c m in heard_in w k x ≡ leaves (answered h k x).refusal (heard_in w k m) w
      go zero (refused zero) = refl
      go zero (refused (suc c)) = heard_refused w k (suc c)
      go zero (collected x) = refl
      go zero (listed t) = refl
      go zero confessed = refl
      go (suc c) m = heard_refused w k (suc c)

  -- by what the link says
  pub hears_said : {m : Meaning} {w' : List ℕ} → m ≡ link_says h k s → w' ≡ heard_in w k m → Hears w k s (answered h k m).refusal w'
  hears_said {m} {w'} e new =
      let number = ap (λ (y : Meaning). (answered h k y).refusal) e ∙ ap (λ (a : Answer). a.refusal) (link_answered h k s) in
      let left = new ∙ ap (heard_in w k) e ∙ link_block in
      record { refusal = number; block = rw number left; head = rw left (head_heard w block k s) }
