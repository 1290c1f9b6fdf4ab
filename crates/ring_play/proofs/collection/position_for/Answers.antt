-- `ring_play::collection::position_for` meets its contract: by the counts if they decide, and else from the whole list.
use Rattle.std.proofs.Common.{◌≡◌, ◌≤◌, ap, ◌∙◌, arith, to_z-of_z, w32}
use Rattle.terms.specs.declared.Table.{Table}
use Rattle.entries.specs.Tables.{table_at}
use Rattle.convergence.specs.Settling.{ordered}
use Rattle.settle_midpoint.specs.Orders.{order_of}
use Rattle.settle_midpoint.specs.declared.Order.{Order}
use Rattle.ring_play.specs.declared.Stage.{Stage}
use Rattle.frame_slots.specs.Slots.{planted_in}
use Rattle.ring_play.specs.Memory.{heads}
use Rattle.ring_play.proofs.sides.Counting.{counts_small}
use Rattle.ring_play.proofs.sides.Settling.{order_small, settles_inside}
use Rattle.ring_play.proofs.collection.position_for.Goals as goal

short : (s : Stage) (t : Table) {o : Order} → o ≡ order_of (ordered (heads s) (table_at t)) → o.len ≤ 32
short s t = order_small (heads s) (table_at t) (omega arith)

pub count_sides-c-requires : goal.count_sides-c-requires
count_sides-c-requires c = (c.requires.0, short c.args.s c.args.sent c.requires.2)

pub decides-requires : goal.decides-requires
decides-requires c =
    let h = counts_small _ _ _ (heads c.args.s) c.count_sides-c.ensures in
    (short c.args.s c.args.sent c.requires.2, omega (arith, h.0), omega (arith, h.1), omega (arith, h.2))

pub position_inside-requires : goal.position_inside-requires
position_inside-requires c = (short c.args.s c.args.sent c.requires.2, c.decides.ensures c.if-decides.true)

pub returns-then-decides : goal.returns-then-decides
returns-then-decides c S =
    let a = c.args in
    to_z-of_z {w = w32} (record { sfits = c.position_inside.type_inv })
    ∙ settles_inside a.s S (planted_in a.planted.now a.lengths.now) a.i (ap (λ (o : Order). o.len) c.requires.2) (ap (λ (o : Order). o.positions) c.requires.2)
    c.count_sides-c.ensures (c.decides.ensures c.if-decides.true) c.position_inside.ensures
