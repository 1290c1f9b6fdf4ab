-- `fields::put_bytes` meets its contract: the bytes are copied just if they fit.
use borrow.Author.Rules.{rules}
use mathlib.Core.Path.{sym, ◌∙◌}
use Rattle.fields.proofs.Copying.{copied_fits, copied_not}
use Rattle.fields.proofs.put_bytes.Goals as goal

pub returns-then-size-at : goal.returns-then-size-at
returns-then-size-at c = sym (copied_not _ _ _ (search rules))

pub returns-then-size-at-2 : goal.returns-then-size-at-2
returns-then-size-at-2 c = sym (copied_not _ _ _ (search rules))

pub returns : goal.returns
returns c = c.copy_within.ensures ∙ sym (copied_fits _ _ _ (search rules))
