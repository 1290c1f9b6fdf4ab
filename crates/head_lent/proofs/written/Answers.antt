-- `head_lent::written` meets its contract, case by case.
use mathlib.Core.Path.{◌≡◌, refl, ap}
use borrow.Author.Rules.{rules}
use Rattle.head_spec.specs.Calls.{write_buffer}
use Rattle.head_lent.specs.Answers.{written_number, written_or}
use Rattle.terms.proofs.Refusals.{given_with}
use Rattle.terms.specs.Refused.{numbered}
use Rattle.head_lent.proofs.written.Goals as goal

pub returns-in-Err : goal.returns-in-Err
returns-in-Err c =
    let a = c.args in
    given_with {P = c.write.new.buffer ≡ write_buffer a.h a.buffer.now} written_number written_or c.write.ensures.bytes c.number.ensures refl c.write.ensures.answer
    (ap numbered c.in-Err.is)

pub returns-in-Ok : goal.returns-in-Ok
returns-in-Ok c =
    let a = c.args in
    given_with {P = c.write.new.buffer ≡ write_buffer a.h a.buffer.now} written_number written_or c.write.ensures.bytes refl refl c.write.ensures.answer
    (ap numbered c.in-Ok.is)
