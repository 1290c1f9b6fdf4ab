-- Number after number: after j turns the first j words are there.
use mathlib.Core.Path.{◌≡◌}
use lib.Seq.{paste}
use Rattle.head_c.specs.Blocks.{words_of}
use Rattle.head_c.proofs.block.put_numbers.Given as goal

abbrev pub invariant-loop-j : goal.invariant-loop-j
invariant-loop-j l = l.h ≡ paste l.initial.h l.from (words_of l.numbers) l.j
