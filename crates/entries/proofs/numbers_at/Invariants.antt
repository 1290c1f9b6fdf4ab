-- `entries::numbers_at` meets its contract. The loop's invariant: the array has the first k numbers, and it is filled up to n, or to 32, where it ends.
use mathlib.Core.Path.{◌≡◌}
use Rattle.entries.specs.Entries.{numbers}
use Rattle.entries.proofs.numbers_at.Given as goal

abbrev pub invariant-loop-k : goal.invariant-loop-k
invariant-loop-k l = l.out ≡ numbers l.s l.k
