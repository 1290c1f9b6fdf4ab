-- The page of the readings, with its answer as a number and a length.
use mathlib.Core.Path.{refl, ap}
use Rattle.terms.specs.Refused.{numbered}
use Rattle.head_c.specs.Pages.{readings_of}
use Rattle.head_c.proofs.Pages.{paged, too_many}
use Rattle.head_c.proofs.page.focus_host_page.Goals as goal

pub returns-then-n-gt32 : goal.returns-then-n-gt32
returns-then-n-gt32 c =
    let a = c.args in
    rw c.number.ensures (too_many a.n (readings_of a.blocks.now) a.buffer.now a.length.now c.if-n-gt32.true)

pub returns-in-Err : goal.returns-in-Err
returns-in-Err c =
    let a = c.args in
    paged a.blocks.now a.buffer.now a.n refl c.readings_in.ensures a.length.now c.page.ensures.value c.page.ensures.buffer_after
    (ap numbered c.in-Err.is) c.number-in-Err.ensures refl

pub returns-in-Ok : goal.returns-in-Ok
returns-in-Ok c =
    let a = c.args in
    paged a.blocks.now a.buffer.now a.n refl c.readings_in.ensures a.length.now c.page.ensures.value c.page.ensures.buffer_after
    (ap numbered c.in-Ok.is) refl refl
