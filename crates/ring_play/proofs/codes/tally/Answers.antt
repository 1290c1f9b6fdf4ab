-- `ring_play::codes::tally` meets its contract: a list without nulls has its numbers for codes. What the closure gives at an entry is its code.
use Rattle.std.proofs.Common.{◌≡◌, get_or, pos, sym, ◌∙◌, of_calls}
use Rattle.marks.proofs.Marks.{all_bits}
use Rattle.ring_play.specs.Inner.Codes.{code_at}
use Rattle.ring_play.proofs.codes.Codes.{code_marked}
use Rattle.ring_play.proofs.codes.tally.Goals as goal

pub returns-then-all_marked : goal.returns-then-all_marked
returns-then-all_marked c =
    record {
      counts = λ j l.
          let a = c.args in
          let h = c.count_same.ensures j l in
          let number : h.0 ≡ get_or a.list.now j (pos 0) = search of_calls in
          rw (number ∙ code_marked a.marks a.list.now j (all_bits a.marks a.n j (sym c.all_marked.ensures ∙ c.if-all_marked.true) l)) at h.2;
    }

pub returns-else-all_marked : goal.returns-else-all_marked
returns-else-all_marked c =
    record {
      counts = λ j l.
          let a = c.args in
          let h = c.count_same-else-all_marked.ensures j l in
          let code : h.0 ≡ code_at a.marks a.list.now j = search of_calls in
          rw code at h.2;
    }
