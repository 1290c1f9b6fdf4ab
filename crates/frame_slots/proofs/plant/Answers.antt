-- `frame_slots::plant` meets its contract: if each test holds, slot 48 k + i is stored; if one fails, nothing is.
use mathlib.Core.Bool.{and-false}
use native.Mathlib.Omega.{arith}
use borrow.Author.Tests.{ne_eqb}
use borrow.Author.Rules.{rules}
use Rattle.frame_slots.specs.Slots.{with_planted, with_length}
use Rattle.frame_slots.proofs.Slots.{plantable, no_sender, no_receiver, too_long, planted_then}
use Rattle.frame_slots.proofs.plant.Goals as goal

pub returns-then-k-ge32 : goal.returns-then-k-ge32
unfolding with_planted with_length
returns-then-k-ge32 c =
    let a = c.args in
    let e = no_sender a.k a.i a.bytes.now (search rules) in
    record { bytes = rw e; lengths = rw e; reads = λ hb j m hj hm short. rw (ne_eqb a.k j (omega arith)) }

pub returns-then-i-ge48 : goal.returns-then-i-ge48
unfolding with_planted with_length
returns-then-i-ge48 c =
    let a = c.args in
    let e = no_receiver a.k a.i a.bytes.now (search rules) in
    record { bytes = rw e; lengths = rw e; reads = λ hb j m hj hm short. rw (ne_eqb a.i m (omega arith), and-false) }

pub returns-then-len-gt-SLOT : goal.returns-then-len-gt-SLOT
unfolding with_planted with_length
returns-then-len-gt-SLOT c =
    let a = c.args in
    let e = too_long a.k a.i a.bytes.now (search rules) in
    record { bytes = rw e; lengths = rw e; reads = λ hb j m hj hm short. absurd (omega arith) }

pub returns : goal.returns
unfolding with_planted with_length
returns c =
    let a = c.args in
    let e = plantable a.k a.i a.bytes.now (search rules) (search rules) (search rules) in
    record {
      bytes = rw e c.put_bytes.ensures;
      lengths = rw e c.put_length.ensures;
      reads = λ hb j m hj hm short. rw (c.put_bytes.ensures, c.put_length.ensures)
          (rw e at (planted_then a.planted.now a.lengths.now a.bytes.now a.k a.i (search rules) (search rules) hb j m hj hm short));
    }
