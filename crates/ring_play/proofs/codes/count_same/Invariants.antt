-- `ring_play::codes::count_same` meets its contract: before entry j, the counts below j have one more if the code is the one it is compared with, and the others are as they were.
use Rattle.std.proofs.Common.{◌≡◌, ℤ, ℕ, ◌+◌, ◌%◌, ◌≤◌, length, get_or, pos}
use Rattle.terms.specs.Positions.{eq_z}
use Rattle.terms.specs.Counting.{Each, bit}
use Rattle.ring_play.proofs.codes.count_same.Given as goal

abbrev pub invariant-loop-j : goal.invariant-loop-j
invariant-loop-j g l =
    (length l.same ≡ 32)
    × Each l.j (λ i. (x : ℤ) × goal.F-post g l.at i x × (get_or l.same i 0 ≡ (get_or l.initial.same i 0 + bit (eq_z x (get_or l.codes i (pos 0)))) % 4294967296))
    × ((i : ℕ) → l.j ≤ i → get_or l.same i 0 ≡ get_or l.initial.same i 0)
