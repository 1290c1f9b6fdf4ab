-- `run_record::take_round` meets its contract: a fault stops the file, and else the pending round is played and what was planted in it is cleared.
use mathlib.Core.Path.{ap, sym, ◌∙◌, refl}
use mathlib.Core.List.{[]}
use Prim.Native.Nat.{ℕ}
use Rattle.run_spec.specs.RunFile.{round, read_file}
use Rattle.run_state.specs.Changes.{with_round_given}
use Rattle.run_state.proofs.Told.{round_fault_as}
use Rattle.run_record.proofs.Records.{judged_stopped, judged_taken, round_room, round_next}
use Rattle.terms.proofs.Refused.{number_ne}
use Rattle.run_record.proofs.take_round.Goals as goal

pub returns-in-Err : goal.returns-in-Err
returns-in-Err c =
    let s = c.args.bytes.now in
    record {
      by_index = λ a begun T H.
          rw (judged_stopped round (read_file a) s _ (c.in-Err.ensures ∙ sym (round_fault_as T s)) (number_ne c.in-Err.refusal))
          (c.refuse.ensures.next (read_file a) _ T H);
      len_bound = c.refuse.ensures.len_bound;
    }

pub returns-in-Ok : goal.returns-in-Ok
returns-in-Ok c =
    let x = c.args in
    let s = x.bytes.now in
    let room = c.play_waiting-text.ensures.len_bound in
    let is = c.given_round.ensures ∙ ap (λ (w : ℕ). with_round_given x.p w c.agree-agreed.result) c.word_at.ensures in
    record {
      by_index = λ a begun T H.
          let e = c.in-Ok.ensures ∙ sym (round_fault_as T s) in
          let P = c.play_waiting-text.ensures.by_index a s begun T H in
          rw (judged_taken round (read_file a) s e refl)
          (round_next s P.shows (c.agree-agreed.ensures a record { positions = []; marks = _; lists = _; planted = _; lengths = _ } begun T P.holds) room (c.clear.ensures _) T (round_room (read_file a) s (sym e)) is);
      len_bound = room;
    }
