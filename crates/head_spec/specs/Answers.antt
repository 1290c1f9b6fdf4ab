-- What start, restart and adoption answer, as number and record. A refusal leaves the record as it was.
use Rattle.std.specs.Prelude.{Result, Ok, Err}
use Rattle.terms.specs.Refused.{number}
use Rattle.terms.specs.declared.refusal.Refusal.{Refusal}
use Rattle.head_spec.specs.declared.Head.{Head}
use Rattle.head_spec.specs.declared.Answer.{Answer}

-- what a call answers that was made with the record h: the record that it makes, or why it is refused
abbrev pub answer_of : Head → Result Head Refusal → Answer
answer_of h (Ok made) = record { refusal = 0; head = made }
answer_of h (Err e) = record { refusal = number e; head = h }
