-- `run_piece::is_settled` meets its contract: its tests are those of the definition, in the same order.
use borrow.Author.Tests.{eq-eqb, ne_eqb, not-true, not-false}
use Rattle.run_piece.proofs.is_settled.Goals as goal

pub returns-then-not-p : goal.returns-then-not-p
returns-then-not-p c = rw (not-true c.args.p.agreed c.if-not-p.true)

pub returns-then-not-p-2 : goal.returns-then-not-p-2
returns-then-not-p-2 c =
    let p = c.args.p in
    rw (not-false p.agreed c.if-not-p.false, not-true p.pending c.if-not-p-2.true)

pub returns-then-p : goal.returns-then-p
returns-then-p c =
    let p = c.args.p in
    rw (not-false p.agreed c.if-not-p.false, not-false p.pending c.if-not-p-2.false, c.if-p.true)

pub returns-then-p-ne0 : goal.returns-then-p-ne0
returns-then-p-ne0 c =
    let p = c.args.p in
    rw (not-false p.agreed c.if-not-p.false, not-false p.pending c.if-not-p-2.false, c.if-p.false, ne_eqb _ _ c.if-p-ne0.true)

pub returns : goal.returns
returns c =
    let p = c.args.p in
    rw (not-false p.agreed c.if-not-p.false, not-false p.pending c.if-not-p-2.false, c.if-p.false, eq-eqb _ _ c.if-p-ne0.false)
