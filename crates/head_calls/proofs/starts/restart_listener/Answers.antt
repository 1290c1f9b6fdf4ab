-- A restart of a listener.
use Rattle.head_spec.specs.Calls.{restart_listener_refusal, restart_listener}
use Rattle.head_calls.specs.Steps.{restart_as}
use Rattle.head_calls.proofs.starts.restart_listener.Goals as goal

pub returns : goal.returns
unfolding restart_listener_refusal restart_listener restart_as
returns c h = c.restart_as.ensures h
