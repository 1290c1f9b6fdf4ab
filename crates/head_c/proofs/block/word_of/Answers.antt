-- Entry by entry.
use mathlib.Core.Path.{sym, ap, ◌∙◌}
use lib.IntN.{pos}
use mir.Syntax.{w32}
use mir.Facts.{to_z-of_z}
use Rattle.terms.specs.Entry.{Entry}
use Rattle.fields.specs.Bytes.{word_of}
use Rattle.head_lent.specs.Answers.{held_or}
use borrow.Author.Rules.{rules}
use Rattle.head_c.proofs.block.word_of.Goals as goal

pub returns-in-None : goal.returns-in-None
unfolding word_of
returns-in-None c = search rules

pub returns-in-Some : goal.returns-in-Some
returns-in-Some c =
    let v = to_z-of_z {w = w32} {z = c.in-Some.v} (record { sfits = search rules }) in
    c.unsigned.ensures ∙ ap word_of v ∙ ap (λ (e : Entry). word_of (held_or e (pos 0))) (sym c.in-Some.is)
