-- `run_piece::advance` meets its contract: after a fault nothing is read, a whole record is taken where it is, and what is cut is gathered.
use native.Mathlib.Omega.{arith}
use Rattle.run_piece.proofs.Feeding.{uses_all, uses_one, rests, whole_there}
use Rattle.run_piece.proofs.advance.Goals as goal

pub returns-then-p-ne0 : goal.returns-then-p-ne0
returns-then-p-ne0 c = record { used = uses_all c.quiet.ensures; reads = λ a L. rests L c.if-p-ne0.true c.quiet.ensures }

pub front-whole-requires : goal.front-whole-requires
front-whole-requires c =
    let W = c.is_whole.ensures c.if-is_whole.true in
    omega (arith, c.half_at-used.ensures, W.within)

pub returns-then-is_whole : goal.returns-then-is_whole
returns-then-is_whole c =
    let W = c.is_whole.ensures c.if-is_whole.true in
    let ok = c.if-p-ne0.false in
    let t = c.take_record-t.ensures in
    let T = c.taken.ensures in
    record {
      used = uses_one W c.half_at-used.ensures T t.len_bound;
      reads = λ a L. whole_there L _ ok T t.by_index W c.half_at-used.ensures c.front-whole.ensures;
    }
