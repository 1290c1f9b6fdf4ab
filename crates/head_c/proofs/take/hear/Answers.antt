-- What the link says by its parts is taken, or leaves the block.
use mathlib.Core.Path.{◌≡◌, refl, ap, sym, ◌∙◌}
use mathlib.Core.Bool.{Bool}
use mathlib.Core.List.{List}
use Prim.Native.Nat.{ℕ, ◌%◌}
use lib.ListN.{get_or}
use borrow.Author.Tests.{not-true, not-false}
use Rattle.terms.specs.declared.Table.{Table}
use Rattle.frame_spec.specs.declared.Said.{Said}
use Rattle.frame_spec.specs.Said.{listed, rest_field, said_of, table_in}
use Rattle.frame_codec.specs.declared.Parts.{Parts}
use Rattle.frame_codec.specs.Parts.{parts_of}
use Rattle.frame_codec.proofs.Taking.{refused_or}
use Rattle.head_hear.proofs.OneLink.{answered, link_parts, link_says}
use Rattle.head_c.specs.Blocks.{IsBlock, head_of, seat_of, heard_in, Hears}
use Rattle.head_c.proofs.Hearing.{heard_refused, hears_said}
use Rattle.head_c.proofs.take.hear.Goals as goal

-- what was said, of which p is the parts
module _ (w s : List ℕ) (k : ℕ) (block : IsBlock w) {what : Said} {p : Parts} (said : what ≡ said_of (link_says (head_of w) k s)) (parts : p ≡ parts_of what) where
  heard : {y l c : Bool} {w' : List ℕ} → p.accepted ≡ y → p.list ≡ l → p.confession ≡ c
      → let m = refused_or p (table_in (get_or w 0 0 % 256) (rest_field s)) y l c in w' ≡ heard_in w k m → Hears w k s (answered (head_of w) k m).refusal w'
  unfolding head_of seat_of
  heard a i j e = hears_said w block k s (link_parts (head_of w) k s said parts a i j) e

pub returns-then-not-p : goal.returns-then-not-p
unfolding head_of seat_of
returns-then-not-p c =
    let a = c.args in
    heard a.h.now a.frame.now a.link c.requires c.said_on-said.ensures c.parts_of-p.ensures (not-true _ c.if-not-p.true) refl refl
    (sym (heard_refused a.h.now a.link _))

pub returns-then-p : goal.returns-then-p
unfolding head_of seat_of
returns-then-p c =
    let a = c.args in
    heard a.h.now a.frame.now a.link c.requires c.said_on-said.ensures c.parts_of-p.ensures (not-false _ c.if-not-p.false)
    c.if-p.true refl (c.take_list.ensures ∙ ap (λ (x : Table). heard_in a.h.now a.link (listed x)) c.table_in.ensures)

pub returns-then-p-2 : goal.returns-then-p-2
unfolding head_of seat_of
returns-then-p-2 c =
    let a = c.args in
    heard a.h.now a.frame.now a.link c.requires c.said_on-said.ensures c.parts_of-p.ensures (not-false _ c.if-not-p.false)
    c.if-p.false c.if-p-2.true c.take_confession.ensures

pub returns-else-p-2 : goal.returns-else-p-2
unfolding head_of seat_of
returns-else-p-2 c =
    let a = c.args in
    heard a.h.now a.frame.now a.link c.requires c.said_on-said.ensures c.parts_of-p.ensures (not-false _ c.if-not-p.false)
    c.if-p.false c.if-p-2.false c.take_entry.ensures
