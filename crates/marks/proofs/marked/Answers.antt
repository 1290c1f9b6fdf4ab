-- `marks::marked` meets its contract: the shift and the remainder are the definition, and a word below 2^32 has no bit at 32 or above.
use mathlib.Core.Path.{refl, sym}
use Rattle.marks.specs.Marks.{bit_of}
use Rattle.marks.proofs.Marks.{bit_above}
use Rattle.marks.proofs.marked.Goals as goal

pub returns-then-j-lt32 : goal.returns-then-j-lt32
unfolding bit_of
returns-then-j-lt32 c = refl

pub returns-else-j-lt32 : goal.returns-else-j-lt32
returns-else-j-lt32 c =
    let a = c.args in
    sym (bit_above a.marks 32 a.j c.ranges.marks.fits c.if-j-lt32.false)
