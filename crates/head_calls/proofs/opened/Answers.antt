-- Each field is the definition's: the lists are 32 rows of zeros, and no link is marked.
use mathlib.Core.Path.{refl}
use Rattle.entries.specs.Entries.{zeros}
use Rattle.head_spec.specs.Record.{no_links, no_lists}
use Rattle.head_calls.proofs.opened.Goals as goal

pub returns : goal.returns
unfolding no_links no_lists zeros
returns c = refl
