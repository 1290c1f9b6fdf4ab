-- `ring_play::codes::trust_codes` meets its contract: before entry j the codes below j are picked, and if nothing differed they are as they were; the later ones are.
use Rattle.std.proofs.Common.{◌≡◌, ℕ, ◌≤◌, true, length, get_or, pos}
use Rattle.terms.specs.Counting.{Each}
use Rattle.ring_play.specs.Inner.Codes.{code_taken}
use Rattle.ring_play.proofs.codes.trust_codes.Given as goal

abbrev pub invariant-loop-j : goal.invariant-loop-j
invariant-loop-j l =
    (length l.taken ≡ 32) × Each l.j (λ i. get_or l.taken i (pos 0) ≡ code_taken l.codes l.same l.need l.confessed i)
    × ((i : ℕ) → l.j ≤ i → get_or l.taken i (pos 0) ≡ get_or l.initial.taken i (pos 0)) × (l.alike ≡ true → Each l.j (λ i. get_or l.taken i (pos 0) ≡ get_or l.initial.taken i (pos 0)))
