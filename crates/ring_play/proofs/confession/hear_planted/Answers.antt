-- `ring_play::confession::hear_planted` meets its contract: the struck heads that the walk has passed gave what is planted, and all others what they had given; a struck
-- head had given nothing.
use Rattle.std.proofs.Common.{◌≡◌, ℕ, List, ap, ◌∙◌, ap₂, arith, lt-ltb}
use Rattle.convergence.specs.Trust.{Given, nothing}
use Rattle.frame_spec.specs.Said.{said}
use Rattle.settle_trust.specs.Received.{given_by}
use Rattle.head_spec.specs.Record.{given_of}
use Rattle.ring_play.specs.Memory.{heads}
use Rattle.ring_play.specs.Inner.Planted.{given_or_planted}
use Rattle.ring_play.proofs.confession.Received.{rows_kept, received_heard, received_pass}
use Rattle.ring_play.proofs.round.Struck.{walk_turn, walk_on, walk_ends}
use Rattle.ring_play.proofs.confession.hear_planted.Goals as goal

pub loop-k-preserved : goal.loop-k-preserved
loop-k-preserved c =
    let w = c.hear-links in
    let l = c.loop-k in
    let a = c.args in
    let k = c.in-Some.k in
    let t = walk_turn l.invariant (received_pass a.s _ _ _ _ _ _) c.in-Some.ensures.steps.1.0 c.in-Some.ensures.steps.1.1 in
    let untold : given_by a.base a.rows.now k ≡ nothing = c.requires.1.untold k (rw (lt-ltb k (heads a.s) t.0) t.1) in
    let m = said c.head_count-n.result a.s.phase 1 k c.planted-frame.result.now in
    walk_on l.invariant k c.in-Some.ensures.steps (
      received_heard _ _ _ l.links l.rows k t.2.0 m (omega (arith, t.0)) untold t.1
          (ap₂ (λ (x : ℕ) (y : List ℕ). given_of (said x a.s.phase 1 k y)) c.head_count-n.ensures c.planted-frame.ensures) w.ensures.links w.ensures.rows,
      ap (given_by a.base) w.ensures.rows
          ∙ rows_kept a.base l.rows k (ap (λ (G : ℕ → Given). G k) t.2.1 ∙ untold) m
          ∙ t.2.1,
    )

pub returns : goal.returns
unfolding given_or_planted
returns c =
    let t = walk_ends c.loop-k.invariant (received_pass c.args.s _ _ _ _ _ _) c.in-None.ensures.steps.1 in
    record { given = t.0; kept = record { long = t.0.rows_long; gives = t.1 } }
