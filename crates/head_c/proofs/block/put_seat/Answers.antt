-- Word by word.
use mathlib.Core.Path.{◌≡◌, ap, ◌∙◌}
use Prim.Native.Nat.{ℕ}
use lib.ListN.{length-set}
use lib.IntN.{ℤ}
use mir.Syntax.{w32}
use mir.Val.{SFits, to_z, of_z}
use mir.Facts.{to_z-of_z}
use Rattle.fields.specs.Bytes.{word_of}
use Rattle.marks.proofs.Counts.{byte_bit}
use Rattle.settle_midpoint.specs.declared.Kept.{Kept}
use Rattle.head_c.proofs.Putting.{put_words}
use borrow.Author.Rules.{rules}
use Rattle.head_c.proofs.block.put_seat.Goals as goal

-- the word of a number of a kept range
word_is : (of : Kept → ℤ) {k k' : Kept} {x : ℕ} → x ≡ word_of (to_z w32 (of_z w32 (of k))) → SFits w32 (of k) → k ≡ k' → x ≡ word_of (of k')
word_is of e f q = e ∙ ap word_of (to_z-of_z f) ∙ ap (λ (k : Kept). word_of (of k)) q

pub shape_of-h : goal.shape_of-h
shape_of-h c =
    simp length-set

pub returns : goal.returns
returns c =
    let s = c.args.s in
    let kept = c.kept_of-kept.ensures in
    put_words s c.args.h.now c.requires (byte_bit s.healed) (byte_bit s.ended) c.is_held.ensures c.word_of.ensures
    c.is_ranged.ensures
    (word_is (λ x. x.low) {k = c.kept_of-kept.result} c.unsigned.ensures (record { sfits = search rules }) kept)
    (word_is (λ x. x.high) {k = c.kept_of-kept.result} c.unsigned-2.ensures (record { sfits = search rules }) kept)
    (ap (λ (x : Kept). x.trim) kept)
    (word_is (λ x. x.position) {k = c.kept_of-kept.result} c.unsigned-3.ensures (record { sfits = search rules }) kept)
    c.family_number.ensures
