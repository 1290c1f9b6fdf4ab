-- Before entry j the order holds the positions among the trusted entries below j. After the last entry these are all that settling asks of the entries.
use mathlib.Core.Path.{refl, sym, ◌∙◌}
use native.Mathlib.Omega.{arith}
use Rattle.convergence.specs.Trust.{trusted}
use Rattle.settle_trust.specs.Received.{given_by}
use Rattle.settle_trust.proofs.Received.{words}
use Rattle.settle_trust.proofs.Trusted.{decided_marked, trusted_past}
use Rattle.settle_midpoint.specs.Orders.{OrderAfter}
use Rattle.settle_midpoint.proofs.Ordering.{order_none, order_next, order_all}
use Rattle.settle_midpoint.proofs.Middle.{settling_after}
use Rattle.settle_position.proofs.Reference.{prepared}
use Rattle.head_c.specs.Steps.{rows_in}
use Rattle.head_c.proofs.settle.settle_lists.Goals as goal

pub loop-j-init : goal.loop-j-init
loop-j-init c = (refl, λ E P. order_none E)

pub loop-j-preserved : goal.loop-j-preserved
loop-j-preserved c =
    let few = c.at_most_32-count.ensures in (
      c.cell_in-x.ensures.0,
      λ E P.
          rw (c.place-len.ensures.0, c.place-len.ensures.1)
          (order_next E _ (omega (arith, few)) (sym (c.entry_of.ensures ∙ (c.cell_in-x.ensures.1 E P).entry)) (c.loop-j.invariant.1 E P)),
    )

pub returns : goal.returns
returns c =
    let a = c.args in
    let few = c.at_most_32-count.ensures in
    let L = rows_in a.h.now in
    let g = words a.links c.well_formed.1.0 in
    let E = trusted a.n a.f (given_by a.links L) in
    let past = trusted_past a.links L g a.n a.f in
    let held : OrderAfter c.loop-j.j E c.loop-j.len c.loop-j.positions =
    c.loop-j.invariant.1 E
    (prepared E L _ _ c.compare_in-compared.result _ c.compare_in-compared.ensures refl refl refl
    (λ j. decided_marked a.links L g a.n a.f j few c.lists_needed.ensures c.all_marks-marks.ensures) past (omega (arith, few))) in
    c.middle_in.ensures ∙ settling_after _ _ _ _ (order_all E past a.n (omega (arith, few)) held)
