-- `hostpage::page` meets its contract: each of its tests is one of the definition's, in the same order.
use Prim.Native.Nat.{◌≤◌}
use native.Mathlib.Nat.{pos_of_ne-zero}
use Rattle.hostpage.proofs.Pages.{no_heads, many_heads, short, fits}
use Rattle.hostpage.proofs.page.Goals as goal

pub returns-then-n-eq0 : goal.returns-then-n-eq0
returns-then-n-eq0 c =
    let a = c.args in
    let w = no_heads a.n a.readings a.buffer.now c.if-n-eq0.true in
    record { value = w.0; buffer_after = w.1 }

pub returns-then-n-gt32 : goal.returns-then-n-gt32
returns-then-n-gt32 c =
    let a = c.args in
    let w = many_heads a.n a.readings a.buffer.now c.if-n-gt32.true in
    record { value = w.0; buffer_after = w.1 }

pub returns-then-buffer-len : goal.returns-then-buffer-len
returns-then-buffer-len c =
    let a = c.args in
    let l : 1 ≤ a.n = pos_of_ne-zero c.if-n-eq0.false in
    let w = short a.n a.readings a.buffer.now l c.if-n-gt32.false (rw c.page_length-len.ensures at c.if-buffer-len.true) in
    record { value = w.0; buffer_after = w.1 }

pub returns : goal.returns
returns c =
    let a = c.args in
    let l : 1 ≤ a.n = pos_of_ne-zero c.if-n-eq0.false in
    let w =
    fits a.n a.readings a.buffer.now l c.if-n-gt32.false (rw c.page_length-len.ensures at c.if-buffer-len.false) c.page_length-len.ensures c.put_page.ensures in
    record { value = w.0; buffer_after = w.1 }
