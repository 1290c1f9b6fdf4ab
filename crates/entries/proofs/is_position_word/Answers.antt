-- `entries::is_position_word` meets its contract: the words of positions are those up to 1,000,000 and from 2^32 - 1,000,000 up.
use mathlib.Core.Path.{sym}
use Rattle.entries.proofs.Entries.{position_low, position_high}
use Rattle.entries.proofs.is_position_word.Goals as goal

pub returns-then-x-le1000000 : goal.returns-then-x-le1000000
returns-then-x-le1000000 c = sym (position_low c.args.x c.if-x-le1000000.true)

pub returns-else-x-le1000000 : goal.returns-else-x-le1000000
returns-else-x-le1000000 c = sym (position_high c.args.x c.if-x-le1000000.false c.ranges.x.fits)
