-- `settle_trust::support` meets its contract: a link supports u by a confession, or by a list whose entry j has the cell of u. Each is counted by itself, at
-- most 32 of each, so that the sum fits.
use mathlib.Core.Path.{ap, sym, ◌∙◌}
use mathlib.Core.Bool.{Bool}
use Prim.Native.Nat.{ℕ, ◌+◌}
use native.Mathlib.Omega.{arith}
use lib.Dec.{eqb}
use lib.ListN.{get_or}
use Rattle.terms.specs.Entry.{Entry}
use Rattle.convergence.specs.Trust.{says_of}
use Rattle.settle_trust.specs.Received.{given_by}
use Rattle.settle_trust.specs.Cells.{marks_to}
use Rattle.marks.specs.Marks.{bit_of, count_below}
use Rattle.marks.proofs.Counts.{bits_le}
use Rattle.settle_trust.proofs.Cells.{holds_position, holds_same, equal_held}
use Rattle.settle_trust.proofs.Received.{column_given, words}
use Rattle.settle_trust.proofs.Trusted.{support_counted}
use Rattle.settle_trust.proofs.support.Goals as goal

pub overflow_add-result : goal.overflow_add-result
overflow_add-result c =
    let m = c.at_most_32-count.result in
    let x = c.cell_of.result in
    let b : ℕ → Bool = λ k. eqb (get_or c.column.new.cells k 0) x in
    omega (
      arith,
      c.count_below.ensures,
      c.equal_to.ensures,
      bits_le m (bit_of c.args.links.confessed),
      bits_le m b,
      c.at_most_32-count.ensures,
    )

pub returns : goal.returns
returns c =
    let a = c.args in
    let m = c.at_most_32-count.result in
    let E : ℕ → Entry = λ k. says_of a.j (given_by a.links a.lists k) in
    let e = c.at_most_32-count.ensures in
    let q = column_given a.links a.lists m a.j (omega arith) (c.all_marks-given.ensures ∙ ap (marks_to a.links) (sym e)) in
    let x = holds_position c.ranges.u c.cell_of.ensures in
    ap (λ (k : ℕ). k + c.equal_to.result) c.count_below.ensures
    ∙ ap (λ (k : ℕ). count_below a.links.confessed m + k)
    (c.equal_to.ensures ∙ equal_held m c.column.new.cells E x (λ k l. holds_same (c.column.ensures k l) (q k l)))
    ∙ support_counted a.links a.lists (words a.links c.well_formed.1.0) a.n a.j a.u c.at_most_32-count.ensures
