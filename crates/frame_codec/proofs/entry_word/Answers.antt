-- Within the entries it is the word of the one that is read. Past them an entry counts as 0, whose word is 0.
use mathlib.Core.Path.{ap, sym}
use lib.ListN.{get_or-eq_default}
use lib.IntN.{pos}
use Rattle.fields.specs.Bytes.{word_of}
use Rattle.frame_codec.proofs.entry_word.Goals as goal

pub returns-else-j-entries : goal.returns-else-j-entries
unfolding word_of
returns-else-j-entries c = sym (ap word_of (get_or-eq_default c.args.entries.now (pos 0) c.if-j-entries.false))
