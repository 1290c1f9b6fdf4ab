-- `settle_position::compare` meets its contract: after k turns the lists compared are the first k.
use mathlib.Core.Path.{refl}
use native.Mathlib.Omega.{arith}
use lib.Dec.{eqb}
use lib.ListN.{get_or}
use Rattle.terms.proofs.Sums.{bit_le}
use Rattle.marks.proofs.Counts.{byte_bit}
use Rattle.settle_position.proofs.Reference.{compares_none, compares_few, compares_alike, compares_other}
use Rattle.settle_position.proofs.compare.Goals as goal
use Rattle.settle_position.proofs.compare.Goals.{then-marks-k, else-marks-k}

pub loop-k-init : goal.loop-k-init
loop-k-init c = (refl, compares_none)

pub overflow_add-alike : goal.overflow_add-alike
overflow_add-alike c =
    let a = c.args in
    let like = eqb (get_or a.marks.now c.loop-k.k 0) (get_or a.marks.now a.reference 0) in
    omega (arith, byte_bit like, bit_le like, (compares_few c.loop-k.invariant.1).0)

pub overflow_add-apart : goal.overflow_add-apart
overflow_add-apart c =
    let apart = c.is_apart.result in
    omega (arith, byte_bit apart, bit_le apart, (compares_few c.loop-k.invariant.1).1)

pub add_same-requires : goal.add_same-requires
add_same-requires c =
    let l = c.loop-k in
    (l.invariant.0, λ j i. omega (arith, (compares_few l.invariant.1).2 j i))

pub loop-k-preserved : goal.loop-k-preserved
loop-k-preserved c =
    let l = c.loop-k in (
      elim c.if-marks-k.branch [ then-marks-k w ↦ rw w.same-is w.add_same.ensures.0 | else-marks-k w ↦ rw w.same-is l.invariant.0 ],
      elim c.if-marks-k.branch [
        | then-marks-k w ↦ rw w.same-is (compares_alike l.invariant.1 c.is_apart.ensures w.if-marks-k.true w.add_same.ensures.1)
        | else-marks-k w ↦ rw w.same-is (compares_other l.invariant.1 c.is_apart.ensures w.if-marks-k.false)
      ],
    )
