-- `hostpage::page_length` meets its contract: before head k the total is the length of the page of the heads below k.
use mathlib.Core.Path.{◌≡◌, sym, ap, ◌∙◌}
use native.Mathlib.Omega.{arith}
use lib.ListN.{length, get_or}
use Rattle.reading.specs.declared.Reading.{Reading}
use Rattle.texts.proofs.Writing.{text_long}
use Rattle.hostpage.specs.Page.{reading_line}
use Rattle.hostpage.proofs.Pages.{page_none, next_length}
use Rattle.hostpage.proofs.page_length.Goals as goal

pub loop-k-init : goal.loop-k-init
loop-k-init c = (sym (page_none c.args.readings), omega arith)

pub loop-k-preserved : goal.loop-k-preserved
loop-k-preserved c =
    let t = c.line_of-t in
    let rs = c.args.readings in
    let e : t.result.len ≡ length (reading_line c.loop-k.k (get_or rs c.loop-k.k Reading.Unknown)) = sym (text_long t.result t.type_inv t.ensures.len_bound) ∙ ap length t.ensures.result_value in
    (omega (arith, next_length c.loop-k.k rs), omega arith)
