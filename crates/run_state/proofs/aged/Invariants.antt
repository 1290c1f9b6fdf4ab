-- `run_state::aged` meets its contract: after c-index turns so many are a phase end older.
use Rattle.std.proofs.Common.{◌≡◌}
use Rattle.run_state.specs.Counts.{aged}
use Rattle.run_state.proofs.aged.Given as goal

abbrev pub invariant-loop-c : goal.invariant-loop-c
invariant-loop-c l = l.c-items ≡ aged l.c-index l.initial.c-items
