-- `run_listing::extremes_of` meets its contract: before receiver j the two entries are the lowest and the highest of those below j, and past the last turn there
-- is no receiver.
use Rattle.std.proofs.Common.{◌≡◌, sym, ◌∙◌, arith}
use mir.Facts.{to_z-of_z}
use mir.Syntax.{w32}
use borrow.Author.Tests.{not-true, not-false}
use Rattle.run_listing.proofs.Lowest.{found_none, found_struck, found_sound, found_all}
use Rattle.run_listing.proofs.extremes_of.Goals.{then-is_sound, else-is_sound}
use Rattle.run_listing.proofs.extremes_of.Goals as goal

pub loop-j-init : goal.loop-j-init
loop-j-init c = found_none _

pub loop-j-preserved : goal.loop-j-preserved
loop-j-preserved c =
    let a = c.args in
    let l = c.loop-j in
    let s = sym c.is_sound.ensures in
    elim c.if-is_sound.branch [
      | then-is_sound w ↦
          let v = to_z-of_z {w = w32} (record { sfits = w.position_at-v.type_inv }) ∙ w.position_at-v.ensures in
          found_sound a.n a.m a.struck a.positions.now l.invariant (not-true _ (s ∙ w.if-is_sound.true)) v (w.low-is ∙ w.outer-low.ensures) (w.high-is ∙ w.outer-high.ensures)
      | else-is_sound w ↦ rw (w.low-is, w.high-is) (found_struck a.n a.m a.struck a.positions.now l.invariant (not-false _ (s ∙ w.if-is_sound.false)))
    ]

pub returns : goal.returns
returns c =
    let l = c.loop-j in
    let a = c.args in
    let e : l.j ≡ c.reach-j-end.result = omega arith in
    found_all a.n a.m a.struck a.positions.now l.invariant (rw e c.reach-j-end.ensures)
