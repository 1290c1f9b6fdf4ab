-- `run_stream::pass_plants` meets its contract: at the head of the loop the bytes before `used` have shown nothing, and the state is that after them.
use mathlib.Core.Path.{◌≡◌, refl}
use mathlib.Core.List.{List}
use Prim.Native.Nat.{ℕ, ◌+◌, ◌≤◌}
use native.Mathlib.Omega.{arith}
use lib.ListN.{length}
use borrow.Author.Rules.{rules}
use Rattle.run_spec.specs.declared.Pair.{Pair}
use Rattle.run_state.specs.declared.Player.{Player}
use Rattle.run_state.specs.Changes.{with_pair_planted}
use Rattle.run_piece.specs.Steps.{Waits, plant_passed}
use Rattle.run_piece.proofs.Feeding.{none_there, used_as}
use Rattle.run_piece.proofs.Planting.{waits_as, passed_within}
use Rattle.run_stream.proofs.Pieces.{rest, moved_within, still_first, last_step, still_more, steps_here}
use Rattle.run_stream.proofs.pass_plants.Goals as goal

-- with another last pair it waits too
waits : {p : Player} {n m struck : ℕ} {pair : Pair} → Waits p n m struck pair → (pair' : Pair) → Waits (with_pair_planted p pair') n m struck pair'
waits W pair' =
    record { sound = refl; fresh = refl; pending = W.pending; n = W.n; listeners = W.listeners; struck = W.struck; pair = refl }

-- so many bytes of the rest are there
moves : (n m struck at : ℕ) (pair : Pair) (bytes : List ℕ) {used : ℕ} → at ≤ length bytes → used ≡ plant_passed n m struck pair (rest at bytes) → at + used ≤ length bytes
moves n m struck at pair bytes {used} l e = moved_within at used bytes l (passed_within n m struck pair (rest at bytes) e)

pub returns-then-not-awaits_plants-clause-passes : goal.returns-then-not-awaits_plants-clause-passes
returns-then-not-awaits_plants-clause-passes c = λ a carry M L. none_there L

pub loop-used-init : goal.loop-used-init
loop-used-init c =
    let W = c.awaits_plants.ensures c.if-not-awaits_plants.false in
    (search rules, λ carry M. rw (waits_as W) still_first)

pub returns-then-one-eq0-clause-passes : goal.returns-then-one-eq0-clause-passes
returns-then-one-eq0-clause-passes c =
    let p = c.args.p in
    let l = c.loop-used in
    let m = moves p.n p.listeners p.struck l.used l.pair c.args.bytes.now l.invariant.0 c.pass_plant-one.ensures.used_value in
    let W = waits (c.awaits_plants.ensures c.if-not-awaits_plants.false) l.pair in
    let z : l.used ≡ l.used + c.pass_plant-one.result.used = omega (arith, c.if-one-eq0.true) in
    rw c.passed.ensures
    (λ a carry M L. used_as c.args.bytes.now z (last_step (l.invariant.1 carry M) c.pass_plant-one.result.used m (λ b K. c.pass_plant-one.ensures.passes _ W b carry M K) a L))

pub loop-used-preserved : goal.loop-used-preserved
loop-used-preserved c =
    let p = c.args.p in
    let l = c.loop-used in
    let m = moves p.n p.listeners p.struck l.used l.pair c.args.bytes.now l.invariant.0 c.pass_plant-one.ensures.used_value in
    let W = waits (c.awaits_plants.ensures c.if-not-awaits_plants.false) l.pair in
    (m, λ carry M. still_more (l.invariant.1 carry M) c.pass_plant-one.result.used m refl (λ b K. c.pass_plant-one.ensures.passes _ W b carry M K))

pub returns-clause-passes : goal.returns-clause-passes
returns-clause-passes c =
    let l = c.loop-used in
    rw c.passed-2.ensures (λ a carry M L. steps_here (l.invariant.1 carry M) a L)
