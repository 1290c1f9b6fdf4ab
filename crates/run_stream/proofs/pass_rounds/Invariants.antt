-- `run_stream::pass_rounds` meets its contract: at the head of the loop the page holds what was shown before and the lines of the bytes before `used`, and the
-- records to come are those of the bytes from there on.
use Rattle.std.proofs.Common.{◌≡◌, ◌≤◌, length, take, drop}
use Rattle.std.specs.Slice.Iter.{chunks_exact_rest, chunks_exact_size}
use Rattle.run_stream.specs.Pages.{page_size}
use Rattle.run_stream.specs.Inner.{Follows}
use Rattle.run_stream.proofs.pass_rounds.Given as goal

abbrev pub invariant-loop-record : goal.invariant-loop-record
invariant-loop-record l =
    record {
      within : l.used ≤ length l.bytes;
      room : l.to ≤ page_size;
      follows : Follows l.initial.player l.bytes l.positions (take l.from l.initial.page) l.player l.used (take l.to l.page);
      size : chunks_exact_size l.record-iterator ≡ 8;
      rest : chunks_exact_rest l.record-iterator ≡ drop l.used l.bytes;
    }
