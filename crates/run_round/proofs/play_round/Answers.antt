-- `run_round::play_round` meets its contract: any ring that has not agreed is played, and its line is made.
use mathlib.Core.Path.{refl}
use mathlib.Core.List.{[]}
use borrow.Author.Tests.{not-true, not-false}
use Rattle.run_spec.proofs.Reached.{taken}
use Rattle.run_round.proofs.Rounds.{kept_played}
use Rattle.run_round.proofs.play_round.Goals as goal

pub returns-then-not-p : goal.returns-then-not-p
returns-then-not-p c =
    let line = c.line_of.ensures in
    record {
      by_index = λ a begun pending T H.
          kept_played (taken a begun) begun pending T H refl (c.play_ring.ensures a begun pending T H (not-true _ c.if-not-p.true)) line.result_value line.len_bound;
      len_bound = line.len_bound;
    }

pub returns : goal.returns
returns c =
    record {
      by_index = λ a begun pending T H. c.play_agreed.ensures.by_index a record { positions = []; marks = _; lists = _; planted = _; lengths = _ } begun pending T (not-false _ c.if-not-p.false) H;
      len_bound = c.play_agreed.ensures.len_bound;
    }
