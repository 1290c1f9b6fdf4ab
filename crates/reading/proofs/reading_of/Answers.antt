-- `reading::reading_of` meets its contract: of what is kept the two numbers are read back as they were held.
use mathlib.Core.Path.{sym, ap, ◌∙◌}
use lib.IntN.{ℤ}
use mir.Syntax.{w32}
use mir.Val.{SFits}
use mir.Facts.{to_z-of_z}
use borrow.Author.Rules.{rules}
use Rattle.terms.proofs.Machine.{read}
use Rattle.reading.specs.Readings.{reading_between, reading_of}
use Rattle.reading.proofs.reading_of.Goals as goal

pub returns-in-Some : goal.returns-in-Some
returns-in-Some c =
    let k = c.in-Some.kept in
    let low : SFits w32 k.low = record { sfits = search rules } in
    let high : SFits w32 k.high = record { sfits = search rules } in
    c.reading_between.ensures
    ∙ ap (λ (z : ℤ). reading_between z (read w32 k.high)) (to_z-of_z low)
    ∙ ap (reading_between k.low) (to_z-of_z high)
    ∙ ap reading_of (sym c.in-Some.is)
