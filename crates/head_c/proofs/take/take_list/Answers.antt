-- The link is marked as heard, and as one that gave a list; the list's marks and numbers go to their places.
use mathlib.Core.Path.{ap, sym, ◌∙◌}
use native.Mathlib.Omega.{arith}
use mathlib.Core.List.{List}
use Prim.Native.Nat.{ℕ, ◌+◌, ◌*◌}
use lib.ListN.{set, length-set}
use lib.Seq.{paste}
use Rattle.head_c.specs.Blocks.{words_of, marked}
use Rattle.head_c.proofs.Hearing.{heard_below, heard_past}
use Rattle.head_c.proofs.take.take_list.Goals as goal

pub returns-then-k-ge-HEADS : goal.returns-then-k-ge-HEADS
returns-then-k-ge-HEADS c = sym (heard_past _ _ _ c.if-k-ge-HEADS.true)

pub put_numbers-requires : goal.put_numbers-requires
put_numbers-requires c = simp length-set (omega (arith, c.put_mark.auto.h ∙ c.put_heard.auto.h ∙ c.requires))

pub shape_of-h : goal.shape_of-h
shape_of-h c =
    c.put_numbers.auto.h ∙ simp length-set (c.put_mark.auto.h ∙ c.put_heard.auto.h)

pub returns : goal.returns
returns c =
    let a = c.args in
    let marks = c.put_mark.ensures ∙ ap (marked 59 a.k) c.put_heard.ensures in
    c.put_numbers.ensures
    ∙ ap (λ (l : List ℕ). paste (set l (60 + a.k) a.t.marks) (92 + 32 * a.k) (words_of a.t.entries) 32) marks
    ∙ sym (heard_below _ _ _ c.if-k-ge-HEADS.false)
