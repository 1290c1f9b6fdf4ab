-- Word by word.
use mathlib.Core.Path.{◌≡◌, ap, ◌∙◌}
use mathlib.Core.List.{List}
use Prim.Native.Nat.{ℕ}
use native.Mathlib.Omega.{arith}
use lib.ListN.{set, length-set}
use lib.IntN.{ℤ}
use mir.Syntax.{w32}
use mir.Val.{SFits, to_z, of_z}
use mir.Facts.{to_z-of_z}
use Rattle.fields.specs.Bytes.{word_of}
use borrow.Author.Rules.{rules}
use Rattle.head_c.proofs.block.put_offer.Goals as goal

word_is : (v : ℤ) {x : ℕ} → x ≡ word_of (to_z w32 (of_z w32 v)) → SFits w32 v → x ≡ word_of v
word_is v e f = e ∙ ap word_of (to_z-of_z f)

words_are : (w : List ℕ) {low high middle low' high' middle' : ℕ} (trim : ℕ) → low ≡ low' → high ≡ high' → middle ≡ middle'
    → set (set (set (set (set w 18 1) 19 low) 20 high) 21 trim) 22 middle ≡ set (set (set (set (set w 18 1) 19 low') 20 high') 21 trim) 22 middle'
words_are w trim p q r = rw (p, q, r)

pub bounds-h-22 : goal.bounds-h-22
bounds-h-22 c =
    simp length-set (omega arith)

pub shape_of-h : goal.shape_of-h
shape_of-h c =
    simp length-set

pub returns : goal.returns
returns c =
    let k = c.args.kept in
    words_are c.args.h.now k.trim
    (word_is k.low c.unsigned.ensures (record { sfits = search rules }))
    (word_is k.high c.unsigned-2.ensures (record { sfits = search rules }))
    (word_is k.position c.unsigned-3.ensures (record { sfits = search rules }))
