-- `ring_play::collection::conclude` meets its contract: what the unstruck heads send is read once, and each receiver that is not struck settles from it with what is planted
-- to it.
use Rattle.std.proofs.Common.{◌≡◌, ℕ, ◌<◌, cond, List, get_or, ℤ, pos, ap, ◌∙◌}
use Rattle.entries.specs.Tables.{table_at, table_of}
use Rattle.convergence.specs.Settling.{ordered}
use Rattle.settle_midpoint.specs.Orders.{order_of}
use Rattle.ring_play.specs.declared.Stage.{Stage}
use Rattle.ring_play.specs.Memory.{heads, settles, InRange, heard_position}
use Rattle.frame_slots.specs.Slots.{planted_in}
use Rattle.ring_play.specs.Inner.Collection.{sent_by, heard_with, position_from}
use Rattle.ring_play.proofs.round.Frames.{phase_small}
use Rattle.ring_play.proofs.collection.Lists.{sent_shared, concluded}
use Rattle.ring_play.proofs.collection.conclude.Goals as goal

is_new : (s : Stage) (positions : List ℤ) → s.phase < 65536 → InRange s positions → (plant : ℕ → ℕ → List ℕ) (i : ℕ)
    → let had = get_or positions i (pos 0) in
    cond (settles s i) (position_from s (table_at (table_of (heads s) (heard_with s (sent_by s positions) plant i)))) had
    ≡ cond (settles s i) (heard_position s positions plant i) had
is_new s positions small fit plant i =
    ap (λ (v : ℤ). cond (settles s i) v (get_or positions i (pos 0))) (concluded s positions small fit plant i)

-- no head is struck
pub returns-then-s-eq0 : goal.returns-then-s-eq0
returns-then-s-eq0 c fit i =
    let a = c.args in
    let plant = planted_in a.planted.now a.lengths.now in
    c.conclude_quiet.ensures c.if-s-eq0.true (sent_shared a.s a.positions.now c.entries_sent-sent.ensures) plant i
    ∙ is_new a.s a.positions.now (phase_small a.s c.well_formed.0) fit plant i

pub fill_positions-requires : goal.fill_positions-requires
fill_positions-requires c = (
  sent_shared c.args.s c.args.positions.now c.entries_sent-sent.ensures,
  c.order_of-order.ensures ∙ ap (λ (n : ℕ). order_of (ordered n (table_at c.entries_sent-sent.result))) c.head_count.ensures,
)

pub returns : goal.returns
returns c fit i =
    let a = c.args in
    c.fill_positions.ensures (sent_shared a.s a.positions.now c.entries_sent-sent.ensures) i
    ∙ is_new a.s a.positions.now (phase_small a.s c.well_formed.0) fit (planted_in a.planted.now a.lengths.now) i
