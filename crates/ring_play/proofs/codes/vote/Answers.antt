-- `ring_play::codes::vote` meets its contract: before entry j, each entry below j has been voted at, and the others are as they were.
use Rattle.std.proofs.Common.{◌≡◌, get_or, length-set, pos, ◌∙◌, arith, to_z-of_z, rules, w32, to_z, of_z}
use Rattle.ring_play.specs.Inner.Votes.{Voted}
use Rattle.ring_play.proofs.codes.Storing.{each_set_both, later_set}
use Rattle.ring_play.proofs.codes.Votes.{voted}
use Rattle.ring_play.proofs.codes.vote.Goals as goal

pub loop-j-preserved : goal.loop-j-preserved
loop-j-preserved c =
    let l = c.loop-j in
    let a = c.args in
    let x = get_or a.row.now l.j (pos 0) in
    let y = get_or l.codes l.j (pos 0) in
    let fits-x : to_z w32 (of_z w32 x) ≡ x = search rules in
    let fits-y : to_z w32 (of_z w32 y) ≡ y = search rules in (
      simp length-set l.invariant.0,
      simp length-set l.invariant.1,
      each_set_both (pos 0) 0 l.codes l.leads l.j _ _
          (λ i x y. Voted (get_or a.row.now i (pos 0)) (get_or a.codes.now i (pos 0)) (get_or a.leads.now i 0) x y) (omega arith) (omega arith) l.invariant.2
          (voted fits-x (fits-y ∙ l.invariant.3 l.j (omega arith)) (l.invariant.4 l.j (omega arith))
          (to_z-of_z {w = w32} (record { sfits = c.leader.type_inv }) ∙ c.leader.ensures) c.lead.ensures),
      λ i q. later_set (pos 0) l.codes l.j _ i q ∙ l.invariant.3 i (omega arith),
      λ i q. later_set 0 l.leads l.j _ i q ∙ l.invariant.4 i (omega arith),
    )
