-- `hostpage::put_range` meets its contract: the word and the three floats, in order.
use mathlib.Core.List.{[]}
use native.Mathlib.Omega.{arith}
use borrow.Author.Rules.{rules}
use Rattle.texts.specs.Numbers.{spaced}
use Rattle.texts.specs.Texts.{Longer}
use Rattle.texts.proofs.Writing.{longer_then, longer_as, put_fits}
use Rattle.hostpage.specs.Page.{range}
use Rattle.hostpage.proofs.Lines.{range_is}
use Rattle.hostpage.proofs.put_range.Goals as goal

word : (c : goal.After-put-t) → Longer c.args.t (spaced range []) 6 c.put-t.result
word c = put_fits 6 (omega arith) (search rules) c.put-t.ensures

pub put_float-t-requires : goal.put_float-t-requires
put_float-t-requires c = omega (arith, c.requires, (word c).room)

pub put_float-t-requires-2 : goal.put_float-t-requires-2
put_float-t-requires-2 c = omega (arith, c.requires, (word c.before).room, c.put_float-t.ensures.room)

pub put_float-requires : goal.put_float-requires
put_float-requires c =
    omega (arith, c.requires, (word c.before.before).room, c.put_float-t.ensures.room, c.put_float-t-2.ensures.room)

pub returns : goal.returns
returns c =
    longer_as (range_is c.args.kept) (omega arith)
    (longer_then (word c.before.before.before) (longer_then c.put_float-t.ensures (longer_then c.put_float-t-2.ensures c.put_float.ensures)))
