-- Each test that is taken is one of the definition's that fails, and those before it hold.
use mathlib.Core.Path.{sym, ◌∙◌}
use native.Mathlib.Omega.{arith}
use borrow.Author.Tests.{lt-ltb, le-ltb}
use Rattle.head_hear.proofs.link_refusal.Goals as goal

pub returns-then-ended : goal.returns-then-ended
returns-then-ended c = rw c.if-ended.true

pub returns-then-n-link : goal.returns-then-n-link
returns-then-n-link c =
    let a = c.args in
    rw (c.if-ended.false, le-ltb a.link a.n (omega arith))

pub returns-then-again : goal.returns-then-again
returns-then-again c =
    let a = c.args in
    rw (c.if-ended.false, lt-ltb a.link a.n (omega arith), sym c.marked-again.ensures ∙ c.if-again.true)

pub returns : goal.returns
returns c =
    let a = c.args in
    rw (c.if-ended.false, lt-ltb a.link a.n (omega arith), sym c.marked-again.ensures ∙ c.if-again.false)
