-- `entries::word_fits` meets its contract, case by case of the mark.
use mathlib.Core.Path.{ap, sym, ◌∙◌}
use mathlib.Core.Bool.{Bool}
use Rattle.fields.specs.Bytes.{signed_of}
use Rattle.entries.specs.Entries.{fits}
use Rattle.entries.proofs.Entries.{zero_word}
use Rattle.entries.proofs.word_fits.Goals as goal

pub returns-else-mark : goal.returns-else-mark
returns-else-mark c = sym (zero_word c.args.x) ∙ ap (λ (b : Bool). fits b (signed_of c.args.x)) (sym c.if-mark.false)
