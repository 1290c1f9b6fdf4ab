-- `fields::copy_few` meets its contract: before byte j the first j bytes are pasted.
use mathlib.Core.Path.{◌≡◌, ◌∙◌, ap}
use native.Mathlib.Numerals.{add-one}
use native.Mathlib.Omega.{arith}
use lib.Seq.{paste, paste-zero, paste-suc}
use borrow.Author.Rules.{rules}
use Rattle.fields.proofs.copy_few.Goals as goal

pub loop-j-init : goal.loop-j-init
loop-j-init c = let a = c.args in (search rules, search rules, paste-zero a.s.now a.at a.bytes.now)

pub loop-j-preserved : goal.loop-j-preserved
loop-j-preserved c =
    let a = c.args in
    let l = c.loop-j in
    (search rules, search rules, rw (l.invariant.2, add-one l.j) (paste-suc a.s.now a.at a.bytes.now l.j 0 (omega arith) (omega arith)))

pub returns : goal.returns
returns c =
    let a = c.args in
    let l = c.loop-j in
    let e : l.j ≡ a.count = omega arith in
    l.invariant.2 ∙ ap (paste a.s.now a.at a.bytes.now) e
