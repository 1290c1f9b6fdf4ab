-- `run_state::cleared` meets its contract: before place j those of the places below j that are marked begin anew.
use Rattle.std.proofs.Common.{◌≡◌}
use Rattle.run_state.specs.Counts.{cleared}
use Rattle.run_state.proofs.cleared.Given as goal

abbrev pub invariant-loop-j : goal.invariant-loop-j
invariant-loop-j l = l.c-items ≡ cleared l.j l.marks l.initial.c-items
