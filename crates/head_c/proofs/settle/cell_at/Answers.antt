-- An entry that is marked is read from its word, and one that is not marked is null.
use Rattle.std.specs.Prelude.{Some}
use mathlib.Core.Path.{ap, sym, ◌∙◌}
use Prim.Native.Nat.{◌+◌, ◌*◌, ◌<◌}
use native.Mathlib.Omega.{arith}
use lib.ListN.{get_or}
use Rattle.terms.specs.Entry.{Entry}
use Rattle.settle_trust.proofs.Cells.{holds_null, holds_same, entry_marked, entry_unmarked}
use Rattle.head_c.proofs.Rows.{row_number, word_cell}
use Rattle.head_c.proofs.settle.cell_at.Goals as goal

word : (c : goal.After-shared_slice_known-then-marked-1) → let a = c.args in get_or a.h.now (92 + 32 * a.k + a.j) 0 < 4294967296
word c = let a = c.args in (c.type_inv.h (92 + 32 * a.k + a.j)).fits

pub overflow_cast-result : goal.overflow_cast-result
overflow_cast-result c =
    omega (arith, word c)

pub overflow_add-result-then-marked-2 : goal.overflow_add-result-then-marked-2
overflow_add-result-then-marked-2 c =
    omega (arith, word c)

pub returns-then-marked : goal.returns-then-marked
returns-then-marked c =
    let a = c.args in
    holds_same (word_cell _ (word c))
    (sym (entry_marked a.marks _ a.j (sym c.marked.ensures ∙ c.if-marked.true)
    ∙ ap Some (row_number a.h.now a.k a.j c.requires.1 c.requires.2)))

pub returns : goal.returns
returns c =
    let a = c.args in
    holds_same holds_null (sym (entry_unmarked a.marks _ a.j (sym c.marked.ensures ∙ c.if-marked.false)))
