-- A one clears, a zero keeps.
use mathlib.Core.Path.{sym, ◌∙◌}
use Rattle.marks.specs.Marks.{bit_of}
use Rattle.head_window.proofs.Bits.{cleared, kept}
use Rattle.head_window.proofs.is_left.Goals as goal

pub returns-then-marked : goal.returns-then-marked
returns-then-marked c = let a = c.args in cleared (bit_of a.events a.k) (sym c.marked.ensures ∙ c.if-marked.true)

pub returns : goal.returns
returns c = kept _ c.marked-2.ensures (sym c.marked.ensures ∙ c.if-marked.false)
