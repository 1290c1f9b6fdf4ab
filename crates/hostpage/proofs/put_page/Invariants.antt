-- `hostpage::put_page` meets its contract: before head k the page of the heads below k stands at the front of the buffer, and the rest is as it was.
use mathlib.Core.Path.{◌≡◌}
use lib.ListN.{length}
use Rattle.hostpage.specs.Page.{page_of}
use Rattle.hostpage.proofs.Pages.{front}
use Rattle.hostpage.proofs.put_page.Given as goal

abbrev pub invariant-loop-k : goal.invariant-loop-k
invariant-loop-k l = (l.at ≡ length (page_of l.k l.readings)) × (l.buffer ≡ front (page_of l.k l.readings) l.initial.buffer)
