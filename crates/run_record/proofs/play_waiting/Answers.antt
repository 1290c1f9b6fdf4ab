-- `run_record::play_waiting` meets its contract: what the player tells says whether a round is pending.
use mathlib.Core.Path.{◌∙◌}
use native.Mathlib.Omega.{arith}
use borrow.Author.Tests.{not-true, not-false}
use Rattle.run_record.proofs.Records.{played_turns, none_turns}
use Rattle.run_record.proofs.play_waiting.Goals as goal

pub returns-then-not-p : goal.returns-then-not-p
returns-then-not-p c = record {
  by_index = λ a s begun T H. none_turns s (T.pending ∙ not-true _ c.if-not-p.true) begun H c.empty.ensures;
  len_bound = omega (arith, c.empty.ensures);
}

pub returns : goal.returns
returns c =
    record {
      by_index = λ a s begun T H.
          let pending = T.pending ∙ not-false _ c.if-not-p.false in
          played_turns s begun pending (c.play_round.ensures.by_index a begun pending T H);
      len_bound = c.play_round.ensures.len_bound;
    }
