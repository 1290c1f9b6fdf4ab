-- The front of a slice is there.
use mathlib.Core.Path.{◌≡◌, sym}
use mathlib.Core.List.{List}
use Prim.Native.Nat.{ℕ, ◌<◌}
use native.Mathlib.Omega.{arith}
use lib.ListN.{length, take}
use lib.Seq.{take_all, length-take-le}
use borrow.Author.Rules.{rules}
use Rattle.headplay.proofs.front.Goals as goal

all : (s : List ℕ) (n : ℕ) → length s < n → s ≡ take n s
all s n l = sym (take_all n s (omega arith))

pub returns-then-s-len : goal.returns-then-s-len
returns-then-s-len c = all _ _ c.if-s-len.true

pub slice_bounds-result-end : goal.slice_bounds-result-end
slice_bounds-result-end c = sym (length-take-le _ _ (search rules))
