-- `ring_play::sides::count_sides` meets its contract: what is planted by the struck heads that the walk has passed is counted.
use Rattle.std.proofs.Common.{◌≡◌, sym, ◌∙◌, arith, to_z-of_z, w32, to_z, rules, of_z, get_or, pos}
use Rattle.frame_slots.specs.Slots.{planted_in}
use Rattle.ring_play.proofs.round.Struck.{walk_starts, walk_turn, walk_on, walk_ends}
use Rattle.ring_play.proofs.sides.Counting.{told_some, counts_none, counts_small, counts_more, counts_pass, counts_as}
use Rattle.ring_play.proofs.sides.count_sides.Goals as goal

pub loop-k-init : goal.loop-k-init
loop-k-init c = walk_starts (rw c.into_iter-k-iterator.ensures.into_iter_gives c.struck_heads-k-items.ensures) (counts_none _ _ _)

pub with_entry-c-requires : goal.with_entry-c-requires
with_entry-c-requires c =
    let t = walk_turn c.loop-k.invariant (counts_pass c.args.s _ _) c.in-Some.ensures.steps.1.0 c.in-Some.ensures.steps.1.1 in
    let h = counts_small _ _ _ c.in-Some.k t.2 in
    (omega (arith, h.0, t.0), omega (arith, h.1, t.0), omega (arith, h.2, t.0))

pub loop-k-preserved : goal.loop-k-preserved
loop-k-preserved c =
    let a = c.args in
    let k = c.in-Some.k in
    let t = walk_turn c.loop-k.invariant (counts_pass a.s _ _) c.in-Some.ensures.steps.1.0 c.in-Some.ensures.steps.1.1 in
    walk_on c.loop-k.invariant k c.in-Some.ensures.steps
    (rw c.with_entry-c.ensures (counts_more _ _ _ k t.2 (told_some a.s (planted_in a.planted.now a.lengths.now) a.i k t.1 ∙ sym c.entry_planted-e.ensures)))

pub returns : goal.returns
returns c =
    let x = get_or c.args.order.positions 0 (pos 0) in
    let fits : to_z w32 (of_z w32 x) ≡ x = search rules in
    counts_as fits (to_z-of_z {w = w32} (record { sfits = c.highest_of-highest.type_inv }) ∙ c.highest_of-highest.ensures)
    (walk_ends c.loop-k.invariant (counts_pass c.args.s _ _) c.in-None.ensures.steps.1)
