-- After k turns the lists compared are the first k.
use mathlib.Core.Path.{refl, ap, ◌∙◌}
use mathlib.Core.Bool.{Bool}
use Prim.Native.Nat.{◌+◌}
use native.Mathlib.Omega.{arith}
use lib.Dec.{eqb}
use lib.ListN.{length, get_or}
use Rattle.terms.specs.Counting.{bit}
use Rattle.terms.proofs.Sums.{bit_le}
use Rattle.marks.proofs.Counts.{byte_bit}
use Rattle.settle_position.proofs.Reference.{compares_none, compares_few, compares_alike, compares_other}
use Rattle.head_c.proofs.Rows.{row_long, same_number_lem}
use Rattle.head_c.proofs.settle.compare_in.Goals as goal
use Rattle.head_c.proofs.settle.compare_in.Goals.{then-marks-k, else-marks-k}

pub loop-k-init : goal.loop-k-init
loop-k-init c = (refl, compares_none)

pub overflow_add-alike : goal.overflow_add-alike
overflow_add-alike c =
    let a = c.args in
    let like = eqb (get_or a.marks.now c.loop-k.k 0) (get_or a.marks.now a.reference 0) in
    omega (arith, byte_bit like, bit_le like, (compares_few c.loop-k.invariant.1).0)

pub overflow_add-apart : goal.overflow_add-apart
overflow_add-apart c =
    let apart = c.is_apart.result in
    omega (arith, byte_bit apart, bit_le apart, (compares_few c.loop-k.invariant.1).1)

pub add_same-requires : goal.add_same-requires
add_same-requires c =
    let l = c.loop-k in
    let w = c.args.h.now in (
      ap length c.row_in.ensures ∙ row_long w c.requires.0 l.k (omega arith),
      ap length c.row_in-row.ensures ∙ row_long w c.requires.0 c.args.reference c.requires.2,
      l.invariant.0,
      λ j i. omega (arith, (compares_few l.invariant.1).2 j i),
    )

pub loop-k-preserved : goal.loop-k-preserved
loop-k-preserved c =
    let l = c.loop-k in
    let a = c.args in
    elim c.if-marks-k.branch [
      | then-marks-k x ↦ (
        rw x.same-is x.add_same.ensures.0,
        rw x.same-is (compares_alike l.invariant.1 c.is_apart.ensures x.if-marks-k.true (λ j i. x.add_same.ensures.1 j i
            ∙ ap (λ (b : Bool). get_or l.same j 0 + bit b)
            (same_number_lem a.h.now l.k a.reference j (omega arith) c.requires.2 i x.row_in.ensures c.row_in-row.ensures))),
      )
      | else-marks-k x ↦ (rw x.same-is l.invariant.0, rw x.same-is (compares_other l.invariant.1 c.is_apart.ensures x.if-marks-k.false))
    ]
