-- `run_listing::height` meets its contract: a word from 2^31 up is that of a number below zero.
use mathlib.Core.Path.{ap, ◌∙◌}
use mir.Facts.{to_z-of_z}
use Rattle.fields.specs.Bytes.{word_of}
use Rattle.run_listing.proofs.Heights.{low_word, high_word}
use Rattle.run_listing.proofs.height.Goals as goal

pub returns-then-w-lt2147483648 : goal.returns-then-w-lt2147483648
returns-then-w-lt2147483648 c =
    let word = c.unsigned-w.ensures ∙ ap word_of (to_z-of_z c.ranges.v) in
    rw word (low_word _ c.ranges.v (rw word at c.if-w-lt2147483648.true))

pub returns-else-w-lt2147483648 : goal.returns-else-w-lt2147483648
returns-else-w-lt2147483648 c =
    let word = c.unsigned-w.ensures ∙ ap word_of (to_z-of_z c.ranges.v) in
    rw word (high_word _ c.ranges.v (rw word at c.if-w-lt2147483648.false))
