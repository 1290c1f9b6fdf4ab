-- Number after number: after j turns the first j words are there.
use mathlib.Core.Path.{◌≡◌, ap, sym, ◌∙◌}
use native.Mathlib.Omega.{arith}
use lib.ListN.{get_or}
use lib.IntN.{pos}
use lib.Seq.{paste, paste-zero}
use mir.Syntax.{w32}
use mir.Facts.{to_z-of_z}
use borrow.Author.Rules.{rules}
use Rattle.fields.specs.Bytes.{word_of}
use Rattle.head_c.specs.Blocks.{words_of}
use Rattle.head_c.proofs.Copying.{copied}
use Rattle.head_c.proofs.Putting.{words_long, word_at}
use Rattle.head_c.proofs.block.put_numbers.Goals as goal

pub loop-j-init : goal.loop-j-init
loop-j-init c = let a = c.args in paste-zero a.h.now a.from (words_of a.numbers.now)

pub loop-j-preserved : goal.loop-j-preserved
loop-j-preserved c =
    let l = c.loop-j in
    let a = c.args in
    let E = a.numbers.now in
    let v = c.unsigned.ensures ∙ ap word_of (to_z-of_z {w = w32} {z = get_or E l.j (pos 0)} (record { sfits = search rules })) ∙ sym (word_at E l.j (omega arith)) in
    copied a.h.now (words_of E) a.from 0 l.invariant v (omega arith) (omega (arith, words_long E))

pub returns : goal.returns
returns c =
    let a = c.args in
    let all : c.loop-j.j ≡ 32 = omega arith in
    c.loop-j.invariant ∙ ap (paste a.h.now a.from (words_of a.numbers.now)) all
