-- `run_judge::positions_fit` meets its contract: the chain tests each of the first n.
use Rattle.std.proofs.Common.{◌∙◌, refl, arith, rules, tests}
use Rattle.std.proofs.lemmas.Iterator.{YieldsList-from_range}
use Rattle.std.proofs.lemmas.Iterator.Search.{all_from_yields_List}
use Rattle.terms.specs.Positions.{is_position}
use Rattle.run_spec.specs.RunFile.{position_in}
use Rattle.run_judge.proofs.Positions.{all_fit}
use Rattle.run_judge.proofs.positions_fit.Goals as goal

pub returns : goal.returns
returns c =
    let s = c.args.bytes.now in
    all_from_yields_List (λ j. is_position (position_in s j)) _ _ c.all.result c.all.ensures.ran (YieldsList-from_range 0 c.args.n c.args.n refl (omega arith)) (λ x b q k. search (rules, tests))
    ∙ all_fit s c.args.n
