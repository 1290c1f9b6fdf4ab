-- The marks, and behind them the numbers.
use mathlib.Core.Path.{◌∙◌}
use native.Mathlib.Omega.{arith}
use lib.ListN.{length-set}
use Rattle.head_c.specs.Blocks.{words_of}
use Rattle.head_c.proofs.Putting.{set_paste}
use Rattle.head_c.proofs.block.put_list.Goals as goal

pub put_numbers-requires : goal.put_numbers-requires
put_numbers-requires c = simp length-set (omega arith)

pub shape_of-h : goal.shape_of-h
shape_of-h c = c.put_numbers.auto.h ∙ simp length-set

pub returns : goal.returns
returns c =
    c.put_numbers.ensures ∙ set_paste c.args.h.now (words_of c.args.list.entries) 25 32 c.args.list.marks (omega arith)
