-- `ring_play::codes::vote_all` meets its contract: before link k, the lists of the links below k have voted.
use Rattle.std.proofs.Common.{◌≡◌, sym, refl, ◌∙◌, arith, rules}
use Rattle.terms.specs.Counting.{sum}
use Rattle.ring_play.proofs.codes.Votes.{leads_none}
use Rattle.ring_play.proofs.codes.Lists.{vote_given, vote_skipped}
use Rattle.ring_play.proofs.codes.vote_all.Goals as goal
use Rattle.ring_play.proofs.codes.vote_all.Goals.{then-gives_list, else-gives_list}

pub loop-k-init : goal.loop-k-init
unfolding sum
loop-k-init c =
    (search rules, λ j l. rw (c.requires.1 j l) (leads_none _ (λ w. refl) _))

pub loop-k-preserved : goal.loop-k-preserved
loop-k-preserved c =
    let l = c.loop-k in
    let a = c.args in
    let e = sym c.gives_list.ensures in
    elim c.if-gives_list.branch [
      | then-gives_list w ↦ (
        rw w.count-is (omega arith),
        rw (w.codes-is, w.leads-is, w.count-is) (λ j q. vote_given a.links a.lists.now j l.k (l.invariant.1 j q) (e ∙ w.if-gives_list.true) (w.vote_for.ensures j q)),
      )
      | else-gives_list w ↦ (
        rw w.count-is (omega arith),
        rw (w.codes-is, w.leads-is, w.count-is) (λ j q. vote_skipped a.links a.lists.now j l.k (l.invariant.1 j q) (e ∙ w.if-gives_list.false)),
      )
    ]

pub returns : goal.returns
returns c =
    let e : c.loop-k.k ≡ c.args.n = omega arith in
    (omega arith, rw e at c.loop-k.invariant.1)
