-- `run_record::take_listeners` meets its contract: a fault stops the file, and else the player has the number.
use mathlib.Core.Path.{ap, ◌∙◌, refl}
use native.Mathlib.Omega.{arith}
use Rattle.run_spec.specs.RunFile.{listeners}
use Rattle.run_state.specs.Changes.{with_listeners_given}
use Rattle.run_record.proofs.Records.{judged_stopped, judged_taken, listeners_next}
use Rattle.terms.proofs.Refused.{number_ne}
use Rattle.run_record.proofs.take_listeners.Goals as goal

pub returns-in-Err : goal.returns-in-Err
returns-in-Err c =
    record {
      next = λ F M may T H. rw (judged_stopped listeners F _ _ c.in-Err.ensures (number_ne c.in-Err.refusal)) (c.refuse.ensures.next F M T H);
      len_bound = c.refuse.ensures.len_bound;
    }

pub returns-in-Ok : goal.returns-in-Ok
returns-in-Ok c =
    let x = c.args in
    let s = x.bytes.now in
    record {
      next = λ F M may T H.
          rw (judged_taken listeners F s c.in-Ok.ensures refl)
          (listeners_next s may H T (c.given_listeners.ensures ∙ ap (with_listeners_given x.p) c.byte_at.ensures) c.empty.ensures);
      len_bound = omega (arith, c.empty.ensures);
    }
