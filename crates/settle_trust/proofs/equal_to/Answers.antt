-- `settle_trust::equal_to` meets its contract: after k turns the count is the sum over the first k cells, and it is at most k, so that it fits.
use mathlib.Core.Path.{◌≡◌, refl, ap, ◌∙◌}
use mathlib.Core.Bool.{Bool}
use Prim.Native.Nat.{ℕ}
use native.Mathlib.Omega.{arith}
use lib.Dec.{eqb}
use lib.ListN.{get_or, take}
use Rattle.std.proofs.lemmas.List.{length-take}
use Rattle.terms.specs.Counting.{sum, bit}
use Rattle.terms.proofs.Sums.{bit_le}
use Rattle.settle_trust.specs.Cells.{equal_to}
use Rattle.settle_trust.proofs.Cells.{read_first}
use Rattle.marks.proofs.Counts.{byte_bit, sum_next, bits_le}
use Rattle.settle_trust.proofs.equal_to.Goals as goal

pub loop-cell-init : goal.loop-cell-init
unfolding sum
loop-cell-init c = refl

pub overflow_add-c : goal.overflow_add-c
overflow_add-c c =
    let l = c.loop-cell in
    let a = c.args in
    let t : Bool = eqb (get_or (take a.n a.cells.now) l.cell-index 0) a.x in
    omega (arith, byte_bit t, bit_le t, bits_le l.cell-index (λ k. eqb (get_or a.cells.now k 0) a.x), length-take a.n a.cells.now)

pub loop-cell-preserved : goal.loop-cell-preserved
loop-cell-preserved c =
    let l = c.loop-cell in
    let a = c.args in
    let t : ℕ → Bool = λ k. eqb (get_or a.cells.now k 0) a.x in
    rw (read_first _ _ _ c.loop-cell-test.true) (sum_next (λ (k : ℕ). bit (t k)) l.cell-index l.invariant (byte_bit (t l.cell-index)))

pub returns : goal.returns
returns c =
    let l = c.loop-cell in
    let a = c.args in
    let e : l.cell-index ≡ a.n = omega (arith, length-take a.n a.cells.now) in
    l.invariant ∙ ap (λ (k : ℕ). equal_to k a.cells.now a.x) e
