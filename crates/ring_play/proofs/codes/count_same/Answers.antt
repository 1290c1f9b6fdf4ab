-- `ring_play::codes::count_same` meets its contract: before entry j, the counts below j have one more if the code is the one it is compared with, and the others are as they were.
use Rattle.std.proofs.Common.{◌≡◌, ℤ, ◌+◌, ◌%◌, get_or, length-set, pos, refl, ◌∙◌, arith, rules}
use Rattle.terms.specs.Positions.{eq_z}
use Rattle.terms.specs.Counting.{bit}
use Rattle.ring_play.proofs.codes.Codes.{added_bit}
use Rattle.ring_play.proofs.codes.Storing.{each_set, later_set}
use Rattle.ring_play.proofs.codes.count_same.Goals as goal

pub loop-j-preserved : goal.loop-j-preserved
loop-j-preserved g c =
    let l = c.loop-j in
    let a = c.args in (
      simp length-set l.invariant.0,
      each_set 0 l.same l.j _ (λ i v. (x : ℤ) × goal.F-post g a.at i x × (v ≡ (get_or a.same.now i 0 + bit (eq_z x (get_or a.codes.now i (pos 0)))) % 4294967296)) (omega arith) l.invariant.1
          (c.at.result, c.at.ensures, added_bit (record { sfits = c.at.type_inv }) (search rules) (l.invariant.2 l.j (omega arith)) refl),
      λ i q. later_set 0 l.same l.j _ i q ∙ l.invariant.2 i (omega arith),
    )

pub returns : goal.returns
returns g c =
    let e : c.loop-j.j ≡ c.args.n = omega arith in
    rw e at c.loop-j.invariant.1
