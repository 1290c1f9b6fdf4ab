-- `hostpage::page_length` meets its contract: before head k the total is the length of the page of the heads below k.
use mathlib.Core.Path.{◌≡◌}
use Prim.Native.Nat.{◌*◌, ◌≤◌}
use lib.ListN.{length}
use Rattle.hostpage.specs.Page.{page_of}
use Rattle.hostpage.proofs.page_length.Given as goal

abbrev pub invariant-loop-k : goal.invariant-loop-k
invariant-loop-k l = (l.total ≡ length (page_of l.k l.readings)) × (l.total ≤ 64 * l.k)
