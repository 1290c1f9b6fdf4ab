-- `run_stream::feed` meets its contract: at the head of the loop the bytes before `used` have shown nothing, and the state is that after them.
use Rattle.texts.proofs.Writing.{empty_text}
use Rattle.run_stream.proofs.Pieces.{moved, still_first, last_step, still_more}
use Rattle.run_stream.proofs.feed.Goals as goal

pub loop-used-init : goal.loop-used-init
loop-used-init c = still_first

pub returns-then-text-ne0-clause-by_index : goal.returns-then-text-ne0-clause-by_index
returns-then-text-ne0-clause-by_index c =
    let l = c.loop-used in
    let e = c.step-fed.ensures in
    let m = moved l.used c.step-fed.result.used c.args.bytes.now c.loop-used-test.true e.used.within e.used.some in
    λ a L. last_step l.invariant c.step-fed.result.used m.0 e.reads a L

pub loop-used-preserved : goal.loop-used-preserved
loop-used-preserved c =
    let l = c.loop-used in
    let r = c.step-fed.result in
    let e = c.step-fed.ensures in
    let m = moved l.used r.used c.args.bytes.now c.loop-used-test.true e.used.within e.used.some in
    still_more l.invariant r.used m.0 (empty_text r.text c.if-text-ne0.false) e.reads
