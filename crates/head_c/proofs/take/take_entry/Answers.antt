-- The link is marked as heard, and a position goes to its place.
use mathlib.Core.Path.{ap, ap₂, sym, ◌∙◌}
use mathlib.Core.List.{List}
use Prim.Native.Nat.{ℕ, ◌+◌}
use lib.ListN.{set, length-set}
use mir.Syntax.{w32}
use mir.Facts.{to_z-of_z}
use Rattle.terms.specs.Entry.{Entry}
use Rattle.fields.specs.Bytes.{word_of}
use Rattle.frame_spec.specs.Said.{collected}
use Rattle.head_c.specs.Blocks.{marked, block_with}
use Rattle.head_c.proofs.Hearing.{heard_below, heard_past}
use borrow.Author.Rules.{rules}
use Rattle.head_c.proofs.take.take_entry.Goals as goal

pub returns-then-k-ge-HEADS : goal.returns-then-k-ge-HEADS
returns-then-k-ge-HEADS c = sym (heard_past _ _ _ c.if-k-ge-HEADS.true)

pub returns-in-None : goal.returns-in-None
returns-in-None c =
    let a = c.args in
    c.put_heard.ensures
    ∙ ap (λ (x : Entry). block_with a.h.now a.k (collected x)) (sym c.in-None.is)
    ∙ sym (heard_below _ _ _ c.if-k-ge-HEADS.false)

pub shape_of-h-in-Some : goal.shape_of-h-in-Some
shape_of-h-in-Some c =
    simp length-set (c.put_mark.auto.h ∙ c.put_heard.auto.h)

pub returns-in-Some : goal.returns-in-Some
returns-in-Some c =
    let a = c.args in
    let v = to_z-of_z {w = w32} {z = c.in-Some.v} (record { sfits = search rules }) in
    let marks = c.put_mark.ensures ∙ ap (marked 25 a.k) c.put_heard.ensures in
    ap₂ (λ (l : List ℕ) (x : ℕ). set l (26 + a.k) x) marks (c.unsigned.ensures ∙ ap word_of v)
    ∙ ap (λ (x : Entry). block_with a.h.now a.k (collected x)) (sym c.in-Some.is)
    ∙ sym (heard_below _ _ _ c.if-k-ge-HEADS.false)
