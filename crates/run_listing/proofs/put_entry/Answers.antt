-- `run_listing::put_entry` meets its contract: a null has the empty text, and a position is read back as it was held.
use mathlib.Core.Path.{ap}
use mathlib.Core.List.{[], ◌∷◌, ◌++◌}
use native.Mathlib.Omega.{arith}
use lib.IntN.{ℤ}
use mir.Syntax.{w32}
use mir.Val.{SFits}
use mir.Facts.{to_z-of_z}
use borrow.Author.Rules.{rules}
use Rattle.texts.specs.Numbers.{whole}
use Rattle.texts.proofs.Writing.{longer_as, put_fits}
use Rattle.run_listing.proofs.put_entry.Goals as goal

pub returns-in-None : goal.returns-in-None
returns-in-None c = rw c.in-None.is (put_fits 12 (omega arith) (omega arith) c.put_at.ensures)

pub returns-in-Some : goal.returns-in-Some
returns-in-Some c =
    let v : SFits w32 c.in-Some.v = search rules in
    rw c.in-Some.is (longer_as (ap (λ (z : ℤ). whole z ++ (32 ∷ [])) (to_z-of_z v)) (omega arith) c.put_position.ensures)
