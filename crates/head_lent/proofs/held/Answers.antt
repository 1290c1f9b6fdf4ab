-- `head_lent::held` meets its contract, entry by entry.
use mathlib.Core.Path.{refl}
use mir.Facts.{to_z-of_z}
use borrow.Author.Rules.{rules}
use Rattle.head_lent.specs.Answers.{held_number, held_or}
use Rattle.terms.proofs.Refusals.{given_out}
use Rattle.head_lent.proofs.held.Goals as goal

pub returns-in-None : goal.returns-in-None
returns-in-None c = given_out held_number held_or refl refl refl c.in-None.is

pub returns-in-Some : goal.returns-in-Some
returns-in-Some c = given_out held_number held_or refl (search rules) refl c.in-Some.is
