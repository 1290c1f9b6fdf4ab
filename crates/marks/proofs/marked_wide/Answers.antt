-- `marks::marked_wide` meets its contract: the shift and the remainder are the definition, and a word below 2^64 has no bit at 64 or above.
use mathlib.Core.Path.{refl, sym}
use Rattle.marks.specs.Marks.{bit_of}
use Rattle.marks.proofs.Marks.{bit_above}
use Rattle.marks.proofs.marked_wide.Goals as goal

pub returns-then-j-lt64 : goal.returns-then-j-lt64
unfolding bit_of
returns-then-j-lt64 c = refl

pub returns-else-j-lt64 : goal.returns-else-j-lt64
returns-else-j-lt64 c =
    let a = c.args in
    sym (bit_above a.marks 64 a.j c.ranges.marks.fits c.if-j-lt64.false)
