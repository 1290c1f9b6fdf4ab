-- `run_stream::fill` meets its contract: at the head of the loop the page holds the text that the bytes before `used` show, and the state is that after them.
use mathlib.Core.List.{List}
use Prim.Native.Nat.{ℕ, ◌+◌, ◌≤◌, ◌<◌}
use native.Mathlib.Omega.{arith}
use lib.ListN.{length}
use Rattle.run_stream.proofs.Pieces.{rest, at_first, moved, moved_within, one_more, more_then, text_as}
use Rattle.run_stream.proofs.fill.Goals as goal

-- the piece from `used` on, after the step that shows a line and the round records that follow it
passes : (at fed calm : ℕ) (bytes : List ℕ) → at < length bytes → fed ≤ length (rest at bytes) → (0 < length (rest at bytes) → 0 < fed) → calm ≤ length (rest (at + fed) bytes)
    → (at + fed ≤ length bytes) × (0 < fed) × (at + fed + calm ≤ length bytes)
passes at fed calm bytes l within some more =
    let m = moved at fed bytes l within some in
    (m.0, m.1, moved_within (at + fed) calm bytes m.0 more)

pub loop-used-init : goal.loop-used-init
loop-used-init c = (at_first, omega arith, λ h. absurd (omega arith))

pub loop-used-preserved : goal.loop-used-preserved
loop-used-preserved c =
    let l = c.loop-used in
    let e = c.feed-more.ensures in
    let m = passes c.loop-used.used c.feed-more.result.used c.pass_rounds-calm.result.used c.args.bytes.now c.loop-used-test.true c.feed-more.ensures.used_in_bounds.0 c.feed-more.ensures.used_in_bounds.1 c.pass_rounds-calm.ensures.used_in_bounds.0 in
    let fed = text_as (one_more l.invariant.0 c.feed-more.result.used m.0 e.by_index) c.put-len.ensures.1 in
    (more_then fed c.pass_rounds-calm.result.used m.2 c.pass_rounds-calm.ensures.follows, c.pass_rounds-calm.ensures.used_in_bounds.1, λ h. omega arith)
