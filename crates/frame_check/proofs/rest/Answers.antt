-- Where the frame is refused the number is not 0, and the rest is empty.
use mathlib.Core.Path.{sym, ◌∙◌}
use Rattle.terms.proofs.Refused.{number_ne}
use Rattle.frame_check.proofs.Laws.{refused_rest}
use Rattle.frame_check.proofs.rest.Goals as goal

pub returns-in-Err : goal.returns-in-Err
returns-in-Err c = sym (refused_rest _ (λ q. number_ne c.in-Err.field-0 (c.in-Err.ensures.number ∙ q)))
