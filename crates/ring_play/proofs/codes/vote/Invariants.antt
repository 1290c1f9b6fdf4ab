-- `ring_play::codes::vote` meets its contract: before entry j, each entry below j has been voted at, and the others are as they were.
use Rattle.std.proofs.Common.{◌≡◌, ℕ, ◌≤◌, length, get_or, pos}
use Rattle.terms.specs.Counting.{Each}
use Rattle.ring_play.specs.Inner.Votes.{Voted}
use Rattle.ring_play.proofs.codes.vote.Given as goal

abbrev pub invariant-loop-j : goal.invariant-loop-j
invariant-loop-j l =
    (length l.codes ≡ 32) × (length l.leads ≡ 32)
    × Each l.j (λ i. Voted (get_or l.row i (pos 0)) (get_or l.initial.codes i (pos 0)) (get_or l.initial.leads i 0) (get_or l.codes i (pos 0)) (get_or l.leads i 0))
    × ((i : ℕ) → l.j ≤ i → get_or l.codes i (pos 0) ≡ get_or l.initial.codes i (pos 0))
    × ((i : ℕ) → l.j ≤ i → get_or l.leads i 0 ≡ get_or l.initial.leads i 0)
