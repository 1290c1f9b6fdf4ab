-- `run_round::line_with` meets its contract: the family says how its phases go, and which columns they show.
use mathlib.Core.Path.{◌∙◌}
use Rattle.run_listing.proofs.Lines.{found_line}
use Rattle.run_round.proofs.line_with.Goals as goal

pub returns-in-TwoRounds : goal.returns-in-TwoRounds
returns-in-TwoRounds c =
    let p = c.args.p in
    record {
      result_value = λ positions ends found.
          c.end_line.ensures.result_value ∙ found_line p.n p.listeners c.phase_of-phase.result p.before p.struck p.struck positions found ∙ rw (ends, c.phase_of-phase.ensures, c.in-TwoRounds.is);
      len_bound = c.end_line.ensures.len_bound;
    }

pub returns-in-OneRound : goal.returns-in-OneRound
returns-in-OneRound c =
    let p = c.args.p in
    record {
      result_value = λ positions ends found.
          c.end_line-in-OneRound.ensures.result_value ∙ found_line p.n p.listeners c.phase_of-phase.result p.struck 0 p.struck positions found ∙ rw (ends, c.phase_of-phase.ensures, c.in-OneRound.is);
      len_bound = c.end_line-in-OneRound.ensures.len_bound;
    }
