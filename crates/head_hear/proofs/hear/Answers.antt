-- By each of its parts, what was said makes of the record what hearing makes of it. From link 32 on there is no place for a list, and none is stored.
use mathlib.Core.Path.{◌≡◌, refl}
use mathlib.Core.List.{List}
use native.Mathlib.Omega.{arith}
use lib.ListN.{length}
use lib.Seq.{set_out}
use mir.Val.{Val}
use denote.Laws.{Is}
use borrow.Author.Tests.{not-true, not-false}
use Rattle.frame_spec.specs.Said.{table_in, rest_field}
use Rattle.head_spec.specs.declared.Row.{Row}
use Rattle.head_spec.specs.declared.Head.{Head}
use Rattle.head_spec.specs.contracts.Head.{the_row}
use Rattle.head_hear.proofs.OneLink.{parts_answered}
use Rattle.head_hear.proofs.hear.Goals as goal

-- the machine holds 32 lists, as their type says; they are the last of the record's fields
lists_long : {vs : List Val} (h : Head) → Is the_row h vs → length h.lists ≡ 32
lists_long h is = is.1.1.1.1.1.1.0.1.0.1

pub returns-then-not-p : goal.returns-then-not-p
returns-then-not-p c =
    parts_answered _ _ _ c.said_on-said.ensures c.parts_of-p.ensures (not-true _ c.if-not-p.true) refl refl

pub returns-then-k-lt-HEADS : goal.returns-then-k-lt-HEADS
returns-then-k-lt-HEADS c =
    rw (c.with_mark.ensures, c.with_list-next.ensures, c.table_in-table.ensures)
    (parts_answered _ _ _ c.said_on-said.ensures c.parts_of-p.ensures (not-false _ c.if-not-p.false) c.if-p.true refl)

pub returns-else-k-lt-HEADS : goal.returns-else-k-lt-HEADS
returns-else-k-lt-HEADS c =
    let a = c.args in
    let row : Row = record { entries = (table_in a.h.seat.n (rest_field a.frame.now)).entries } in
    let no_place = set_out a.h.lists a.link row (omega (arith, lists_long a.h c.well_formed.0, c.if-k-lt-HEADS.false)) in
    rw (c.with_mark.ensures, c.with_list-next.ensures, c.table_in-table.ensures)
    (rw no_place at (parts_answered a.h a.link a.frame.now c.said_on-said.ensures c.parts_of-p.ensures (not-false _ c.if-not-p.false) c.if-p.true refl))

pub returns-then-p-2 : goal.returns-then-p-2
returns-then-p-2 c =
    rw (c.with_mark.ensures, c.with_mark-next.ensures)
    (parts_answered _ _ _ c.said_on-said.ensures c.parts_of-p.ensures (not-false _ c.if-not-p.false) c.if-p.false c.if-p-2.true)

pub returns-else-p-2 : goal.returns-else-p-2
returns-else-p-2 c =
    rw (c.with_mark.ensures, c.with_entry-next.ensures)
    (parts_answered _ _ _ c.said_on-said.ensures c.parts_of-p.ensures (not-false _ c.if-not-p.false) c.if-p.false c.if-p-2.false)
