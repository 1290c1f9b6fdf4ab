-- `ring_play::codes::tally_all` meets its contract: before link k, the counts are those of the lists of the links below k.
use Rattle.std.proofs.Common.{get_or, pos, sym, ◌∙◌, arith}
use Rattle.terms.specs.Counting.{sum}
use Rattle.ring_play.proofs.codes.Lists.{tally_given, tally_skipped}
use Rattle.ring_play.proofs.codes.tally_all.Goals as goal
use Rattle.ring_play.proofs.codes.tally_all.Goals.{then-gives_list, else-gives_list}

pub loop-k-init : goal.loop-k-init
unfolding sum
loop-k-init c = c.requires.1

pub loop-k-preserved : goal.loop-k-preserved
loop-k-preserved c =
    let l = c.loop-k in
    let a = c.args in
    let e = sym c.gives_list.ensures in
    elim c.if-gives_list.branch [
      | then-gives_list w ↦
          rw w.same-is
          (λ j q. tally_given a.links a.lists.now j l.k (get_or a.codes.now j (pos 0)) (l.invariant j q) (e ∙ w.if-gives_list.true) (omega arith) (w.tally.ensures.counts j q))
      | else-gives_list w ↦
          rw w.same-is (λ j q. tally_skipped a.links a.lists.now j l.k (get_or a.codes.now j (pos 0)) (l.invariant j q) (e ∙ w.if-gives_list.false))
    ]
