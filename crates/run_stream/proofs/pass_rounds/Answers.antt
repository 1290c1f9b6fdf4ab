-- `run_stream::pass_rounds` meets its contract: at the head of the loop the page holds what was shown before and the lines of the bytes before `used`, and the
-- records to come are those of the bytes from there on.
use Rattle.std.proofs.Common.{ℕ, true, ap, sym, ◌∙◌, arith}
use Rattle.run_state.specs.Changes.{with_round_given}
use Rattle.run_piece.proofs.Calm.{calm_as, calm_there}
use Rattle.run_stream.proofs.Pieces.{record_there, follows_more}
use Rattle.run_stream.proofs.pass_rounds.Goals as goal

pub loop-record-preserved : goal.loop-record-preserved
loop-record-preserved c =
    let l = c.loop-record in
    let x = c.in-Some.record.now in
    let calm = calm_as l.player x (sym c.is_calm.ensures ∙ c.if-not-is_calm.false) in
    let next = c.in-Some.ensures.steps in
    let there = record_there l.used c.args.bytes.now x _ (sym l.invariant.rest ∙ next.1.0) (next.1.1 ∙ l.invariant.size) l.invariant.within in
    let room = c.play_agreed.ensures.len_bound in
    let is = c.given_round-player.ensures ∙ ap (λ (w : ℕ). with_round_given l.player w true) c.word_at.ensures in
    record {
      within = there.0;
      room = omega (arith, c.put-to.ensures.0, room);
      follows =
          follows_more 8 l.invariant.follows
          (λ a carry M L. rw (← there.1) (calm_there calm is room (λ b begun pending T H. c.play_agreed.ensures.by_index b M begun pending T calm.agreed H) L))
          c.put-to.ensures.1;
      size = next.0 ∙ l.invariant.size;
      rest = there.2;
    }
