-- `texts::size_of` meets its contract: k - 1 digits are counted, and what is left of x is counted as the definition counts.
use mathlib.Core.Path.{◌≡◌}
use Prim.Native.Nat.{◌+◌, ◌-◌}
use Rattle.texts.specs.Numbers.{size}
use Rattle.texts.proofs.size_of.Given as goal

abbrev pub invariant-loop-k : goal.invariant-loop-k
invariant-loop-k l = size 9 l.x + 1 ≡ l.k + size (10 - l.k) l.rest
