-- `ring_play::codes::settle_codes` meets its contract: before entry j the order holds the positions among the entries below j. After the last entry these
-- are all that settling asks of the entries.
use Rattle.std.proofs.Common.{◌≡◌, sym, ap, ◌∙◌, arith, to_z-of_z, w32, rules, to_z, of_z, get_or, ℤ, pos, ◌<◌, take}
use Rattle.std.proofs.lemmas.List.{get_or-take, length-take}
use Rattle.settle_midpoint.proofs.Ordering.{order_none, order_next}
use Rattle.settle_midpoint.proofs.Middle.{settling_after}
use Rattle.ring_play.specs.Inner.Codes.{entry_of}
use Rattle.ring_play.proofs.shared.Settling.{at_entries}
use Rattle.ring_play.proofs.codes.settle_codes.Goals as goal

pub loop-c-init : goal.loop-c-init
loop-c-init c = order_none _

pub loop-c-preserved : goal.loop-c-preserved
loop-c-preserved c =
    let l = c.loop-c in
    let x = get_or (take c.head_count-n.result c.args.codes.now) l.c-index (pos 0) in
    let fits : to_z w32 (of_z w32 x) ≡ x = search rules in
    let below : l.c-index < c.head_count-n.result = omega (arith, length-take {A = ℤ}) in
    let at = get_or-take c.head_count-n.result c.args.codes.now l.c-index (pos 0) below in
    rw (c.place-len.ensures.0, c.place-len.ensures.1) (order_next _ l.c-index (omega arith) (sym (c.entry_of.ensures ∙ ap entry_of (fits ∙ at))) l.invariant)

pub returns : goal.returns
returns c =
    let e : c.loop-c.c-index ≡ c.head_count-n.result = omega (arith, length-take {A = ℤ}) in
    to_z-of_z {w = w32} (record { sfits = c.position_in.type_inv }) ∙ c.position_in.ensures
    ∙ at_entries c.args.s _ c.head_count-n.ensures c.rounds_up-up.ensures (c.middle_in.ensures ∙ settling_after _ _ _ _ (rw e at c.loop-c.invariant))
