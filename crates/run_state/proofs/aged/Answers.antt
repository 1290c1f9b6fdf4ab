-- `run_state::aged` meets its contract: after c-index turns so many are a phase end older.
use Rattle.std.proofs.Common.{refl, arith, add-one, ◌≡◌, ◌+◌, min, get_or}
use Rattle.head_spec.specs.Seats.{most_counted}
use Rattle.run_state.specs.Counts.{aged}
use Rattle.run_state.proofs.Counts.{aged_past}
use Rattle.run_state.proofs.aged.Goals as goal

pub loop-c-init : goal.loop-c-init
unfolding aged
loop-c-init c = refl

pub loop-c-preserved : goal.loop-c-preserved
unfolding aged
loop-c-preserved c =
    let l = c.loop-c in
    let here : get_or l.c-items l.c-index 0 ≡ get_or c.args.since l.c-index 0 = rw l.invariant (aged_past l.c-index c.args.since l.c-index (omega arith)) in
    let v : c.saturating_add.result ≡ min most_counted (get_or c.args.since l.c-index 0 + 1) = omega (arith, here) in
    rw (add-one l.c-index, v, l.invariant)
