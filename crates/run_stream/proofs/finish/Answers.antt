-- `run_stream::finish` meets its contract: the pending round is played if the file ends well, and no other.
use Rattle.run_stream.proofs.Finishing.{ends_played_lem, ends_unplayed}
use Rattle.run_stream.proofs.finish.Goals.{else-number-eq0-via-then-number-eq0+else-p, else-number-eq0-via-else-number-eq0}
use Rattle.run_stream.proofs.finish.Goals as goal

pub returns-then-p-clause-by_index : goal.returns-then-p-clause-by_index
returns-then-p-clause-by_index c =
    λ a carry L.
    ends_played_lem L c.ending-number.ensures c.if-number-eq0.true c.if-p.true c.verdict_line-verdict.ensures.result_value
    (λ b w. c.play_round-line.ensures.by_index a b w L.player L.memory) c.counts_played-since.ensures

pub returns-clause-by_index : goal.returns-clause-by_index
returns-clause-by_index c =
    λ a carry L.
    ends_unplayed L c.ending-number.ensures (λ z. elim c.else-number-eq0.branch [
      | else-number-eq0-via-then-number-eq0+else-p w ↦ w.if-p.false
      | else-number-eq0-via-else-number-eq0 w ↦ absurd (w.if-number-eq0.false z)
    ])
    c.verdict_line-verdict.ensures.result_value c.empty.ensures
