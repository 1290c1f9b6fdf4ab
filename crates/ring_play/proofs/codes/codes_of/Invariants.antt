-- `ring_play::codes::codes_of` meets its contract: before entry j, the codes below j are those of the list.
use Rattle.std.proofs.Common.{◌≡◌, length, get_or, pos}
use Rattle.terms.specs.Counting.{Each}
use Rattle.ring_play.specs.Inner.Codes.{code_at}
use Rattle.ring_play.proofs.codes.codes_of.Given as goal

abbrev pub invariant-loop-j : goal.invariant-loop-j
invariant-loop-j l = (length l.codes ≡ 32) × Each l.j (λ i. get_or l.codes i (pos 0) ≡ code_at l.marks l.list i)
