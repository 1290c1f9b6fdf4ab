-- `ring_play::codes::drop_confessed` meets its contract: before entry j, the codes below j of links that confessed are gone, and all others are as they were.
use Rattle.std.proofs.Common.{◌≡◌, ℕ, ◌≤◌, cond, get_or, pos}
use Rattle.marks.specs.Marks.{bit_of}
use Rattle.terms.specs.Counting.{Each}
use Rattle.ring_play.specs.Inner.Codes.{no_code}
use Rattle.ring_play.proofs.codes.drop_confessed.Given as goal

abbrev pub invariant-loop-j : goal.invariant-loop-j
invariant-loop-j l =
    Each l.j (λ i. get_or l.codes i (pos 0) ≡ cond (bit_of l.confessed i) no_code (get_or l.initial.codes i (pos 0)))
    × ((i : ℕ) → l.j ≤ i → get_or l.codes i (pos 0) ≡ get_or l.initial.codes i (pos 0))
