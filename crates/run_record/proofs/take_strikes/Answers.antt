-- `run_record::take_strikes` meets its contract: a fault stops the file, and else the player has the marks. Until now the round had none of listeners.
use mathlib.Core.Path.{ap, sym, ◌∙◌, refl}
use native.Mathlib.Omega.{arith}
use Rattle.run_spec.specs.RunFile.{read_file, strikes}
use Rattle.run_spec.proofs.Bytes.{cost, bare_pending}
use Rattle.run_spec.proofs.Reached.{taken}
use Rattle.run_state.specs.Changes.{with_strikes_given}
use Rattle.run_state.proofs.Told.{strikes_fault_as}
use Rattle.run_record.proofs.Records.{judged_stopped, judged_taken, strikes_next}
use Rattle.terms.proofs.Refused.{number_ne}
use Rattle.run_record.proofs.take_strikes.Goals as goal

pub returns-in-Err : goal.returns-in-Err
returns-in-Err c =
    let s = c.args.bytes.now in
    record {
      by_index = λ a M may T H.
          rw (judged_stopped strikes (read_file a) s _ (c.in-Err.ensures ∙ sym (strikes_fault_as T s)) (number_ne c.in-Err.refusal))
          (c.refuse.ensures.next (read_file a) M T H);
      len_bound = c.refuse.ensures.len_bound;
    }

pub returns-in-Ok : goal.returns-in-Ok
returns-in-Ok c =
    let x = c.args in
    let s = x.bytes.now in
    record {
      by_index = λ a M may T H.
          let (pending, untold, none) = bare_pending (read_file a).rounds may in
          let small = ((taken a ((cost a).begun pending)).waiting pending).untold untold in
          rw (judged_taken strikes (read_file a) s (c.in-Ok.ensures ∙ sym (strikes_fault_as T s)) refl)
          (strikes_next s small H T (c.given_strikes.ensures ∙ ap (with_strikes_given x.p) c.half_at.ensures) c.empty.ensures);
      len_bound = omega (arith, c.empty.ensures);
    }
