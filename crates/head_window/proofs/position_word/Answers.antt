-- Entry by entry.
use mathlib.Core.Path.{sym, ap, ◌∙◌}
use mir.Syntax.{w32}
use mir.Facts.{to_z-of_z}
use Rattle.fields.specs.Bytes.{word_of}
use Rattle.head_window.specs.Window.{position_word}
use borrow.Author.Rules.{rules}
use Rattle.head_window.proofs.position_word.Goals as goal

pub returns-in-Some : goal.returns-in-Some
returns-in-Some c =
    let v = to_z-of_z {w = w32} {z = c.in-Some.v} (record { sfits = search rules }) in
    c.unsigned.ensures ∙ ap word_of v ∙ ap position_word (sym c.in-Some.is)
