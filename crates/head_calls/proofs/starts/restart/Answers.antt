-- A restart of a head.
use Rattle.head_spec.specs.Calls.{restart_refusal, restart}
use Rattle.head_calls.specs.Steps.{restart_as}
use Rattle.head_calls.proofs.starts.restart.Goals as goal

pub returns : goal.returns
unfolding restart_refusal restart restart_as
returns c h = c.restart_as.ensures h
