-- The offer lapses if nothing was refused.
use mathlib.Core.Path.{ap}
use Rattle.head_spec.specs.Kept.{Offer}
use Rattle.headplay.proofs.answered.Goals as goal

pub returns : goal.returns
returns c = let a = c.args.a in ap (λ (o : Offer). record { number = a.refusal; head = a.head; offer = o }) c.lapsed.ensures
