-- `run_stream::begin` meets its contract: before the first byte no start was accepted and no round is pending, so the memory has nothing to hold.
use mathlib.Core.Path.{refl, sym}
use mathlib.Core.Bool.{true≢false}
use Rattle.run_spec.specs.RunFile.{unread, feed}
use Rattle.run_state.proofs.Told.{unread_tells}
use Rattle.run_stream.proofs.begin.Goals as goal

pub returns : goal.returns
unfolding unread feed
returns c carry M =
    rw c.unread.ensures
    record {
      player = unread_tells;
      part = refl;
      have = refl;
      memory =
          record {
            keeps = λ b. absurd (true≢false (sym b));
            level = λ b. absurd (true≢false (sym b));
            slots = λ b. absurd (true≢false (sym b));
            short = λ b. absurd (true≢false (sym b));
          };
    }
