-- Each arm calls what writes the frame of what it matched. A refusal has the empty frame, which fits and changes nothing.
use mathlib.Core.Path.{refl, ap, ◌∙◌}
use mathlib.Core.List.{[]}
use native.Mathlib.Omega.{arith}
use mir.Syntax.{w32}
use mir.Facts.{to_z-of_z}
use Rattle.frame_spec.specs.declared.Said.{Said}
use Rattle.frame_spec.proofs.Fronts.{fits_front}
use borrow.Author.Rules.{rules}
use Rattle.frame_codec.proofs.write.Goals as goal

pub returns-in-Refused : goal.returns-in-Refused
returns-in-Refused c =
    let w = fits_front [] c.args.buffer.now refl (omega arith) refl in
    rw c.in-Refused.is (record { answer = w.0; bytes = w.1 })

pub returns-in-None : goal.returns-in-None
returns-in-None c =
    rw (c.in-Collection.is ∙ ap Said.Collection c.in-None.is) c.write_bare.ensures

pub returns-in-Some : goal.returns-in-Some
returns-in-Some c =
    rw (c.in-Collection.is ∙ ap Said.Collection c.in-Some.is) (rw (to_z-of_z {w = w32} {z = c.in-Some.v} (record { sfits = search rules })) at c.write_position.ensures)

pub returns-in-List : goal.returns-in-List
returns-in-List c =
    rw c.in-List.is c.write_list.ensures

pub returns-in-Confession : goal.returns-in-Confession
returns-in-Confession c =
    rw c.in-Confession.is c.write_bare-in-Confession.ensures
