-- `run_record::take_start` meets its contract: a fault stops the file, and else the start's positions are held and its line is made of them.
use mathlib.Core.Path.{ap, ap₂, sym, ◌∙◌, refl}
use mathlib.Core.Bool.{true}
use Prim.Native.Nat.{ℕ}
use Rattle.run_spec.specs.RunFile.{start}
use Rattle.run_listing.specs.Texts.{end_line}
use Rattle.run_listing.proofs.Lines.{found_line}
use Rattle.run_state.specs.Changes.{fresh_player}
use Rattle.run_record.proofs.Records.{judged_stopped, judged_taken, start_next}
use Rattle.terms.proofs.Refused.{number_ne}
use Rattle.run_record.proofs.take_start.Goals as goal

pub returns-in-Err : goal.returns-in-Err
returns-in-Err c =
    record {
      next = λ F M begun T H.
          rw (judged_stopped (start c.args.family) F _ _ c.in-Err.ensures (number_ne c.in-Err.refusal)) (c.refuse.ensures.next F _ T H);
      len_bound = c.refuse.ensures.len_bound;
    }

pub returns-in-Ok : goal.returns-in-Ok
returns-in-Ok c =
    let K = c.args.family in
    let s = c.args.bytes.now in
    let text = c.end_line.ensures.result_value in
    let room = c.end_line.ensures.len_bound in
    record {
      next = λ F M begun T H.
          let e = c.in-Ok.ensures in
          rw (judged_taken (start K) F s e refl)
          (start_next s K begun (sym e) (λ j b. c.store_heads.ensures j b ∙ c.first_positions-first.ensures j b)
          (c.fresh.ensures ∙ ap₂ (fresh_player true K) c.byte_at-n.ensures c.byte_at.ensures)
          (text ∙ found_line c.byte_at-n.result 0 0 0 0 0 c.store_heads.new.positions c.extremes_of.ensures ∙ ap (λ (m : ℕ). end_line m 0 0 c.store_heads.new.positions 0 0 0) c.byte_at-n.ensures)
          room);
      len_bound = room;
    }
