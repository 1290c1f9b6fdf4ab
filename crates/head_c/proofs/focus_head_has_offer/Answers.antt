-- The offer that stands, as it is read.
use mathlib.Core.Path.{refl}
use Rattle.settle_midpoint.proofs.Stored.{stored}
use Rattle.terms.proofs.Refusals.{given_out}
use Rattle.head_lent.specs.Answers.{offer_number, offer_or}
use borrow.Author.Rules.{rules}
use Rattle.head_c.proofs.focus_head_has_offer.Goals as goal

pub returns-in-None : goal.returns-in-None
returns-in-None c = given_out offer_number offer_or refl refl c.offer_in.ensures c.in-None.is

pub returns-in-Some : goal.returns-in-Some
returns-in-Some c =
    let k = c.in-Some.o in
    given_out offer_number offer_or refl
    (stored {low = k.low} {high = k.high} {position = k.position} k.trim (record { sfits = search rules }) (record { sfits = search rules }) (search rules) (record { sfits = search rules }))
    c.offer_in.ensures c.in-Some.is
