-- `marks::with_mark` meets its contract: a bit that is not there, that is set already, and that is added.
use mathlib.Core.Path.{sym, ap, ◌∙◌}
use Prim.Native.Nat.{ℕ, ◌+◌}
use Rattle.marks.proofs.Marks.{bit_below, with_past, with_old, with_new}
use Rattle.marks.proofs.with_mark.Goals as goal

pub returns-then-k-ge32 : goal.returns-then-k-ge32
returns-then-k-ge32 c = sym (with_past _ _ c.if-k-ge32.true)

pub returns-then-marked : goal.returns-then-marked
returns-then-marked c = sym (with_old _ _ (sym c.marked.ensures ∙ c.if-marked.true))

pub overflow_add-result : goal.overflow_add-result
overflow_add-result c =
    let e = sym c.marked.ensures ∙ c.if-marked.false in
    record { fits = rw c.mark.ensures (bit_below c.args.marks 32 c.args.k c.ranges.marks.fits c.if-k-ge32.false e) }

pub returns : goal.returns
returns c =
    let e = sym c.marked.ensures ∙ c.if-marked.false in
    ap (λ (x : ℕ). c.args.marks + x) c.mark.ensures ∙ sym (with_new c.args.marks c.args.k c.if-k-ge32.false e)
