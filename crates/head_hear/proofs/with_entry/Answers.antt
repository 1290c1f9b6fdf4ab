-- A null entry leaves the list, and a position goes to its place.
use Rattle.std.specs.Prelude.{Some}
use mathlib.Core.Path.{ap, sym, ◌∙◌}
use mir.Syntax.{w32}
use mir.Facts.{to_z-of_z}
use Rattle.terms.specs.Entry.{Entry}
use Rattle.head_spec.specs.Calls.{with_entry}
use borrow.Author.Rules.{rules}
use Rattle.head_hear.proofs.with_entry.Goals as goal

pub returns-in-Some : goal.returns-in-Some
returns-in-Some c =
    let a = c.args in
    let v = to_z-of_z {w = w32} {z = c.in-Some.v} (record { sfits = search rules }) in
    c.with_position.ensures ∙ ap (λ (x : Entry). with_entry a.list a.k x) (ap Some v ∙ sym c.in-Some.is)
