-- `run_record::take_record` meets its contract: a whole record that is allowed is taken by its kind, and other bytes stop the file.
use mathlib.Core.Path.{sym, ◌∙◌}
use Rattle.run_spec.specs.RunFile.{read_file}
use Rattle.run_record.proofs.Records.{taken_allowed, due_whole, not_due}
use Rattle.run_record.proofs.take_record.Goals as goal

pub returns-then-not-is_due : goal.returns-then-not-is_due
returns-then-not-is_due c =
    let s = c.args.bytes.now in
    record {
      by_index = λ a T H. rw (not_due T s (sym c.is_due.ensures ∙ c.if-not-is_due.true)) (c.refuse.ensures.next (read_file a) _ T H);
      len_bound = c.refuse.ensures.len_bound;
    }

pub returns : goal.returns
returns c =
    let s = c.args.bytes.now in
    record {
      by_index = λ a T H.
          let (may, whole) = due_whole T s (sym c.is_due.ensures ∙ c.if-not-is_due.false) in
          rw (taken_allowed (read_file a) s whole may) (c.take_allowed.ensures.by_index a T H may whole);
      len_bound = c.take_allowed.ensures.len_bound;
    }
