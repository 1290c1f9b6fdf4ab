-- `run_whole::fill_row` meets its contract: before place i the first i numbers of the row are in their places.
use Rattle.std.proofs.Common.{◌≡◌, refl, ◌∙◌, to_z, of_z, w32, arith, add-one}
use Rattle.std.proofs.Math.Seq.{take-suc-set}
use mir.Facts.{to_z-of_z}
use Rattle.run_whole.specs.Inner.{sound_row, sound_number}
use Rattle.run_whole.proofs.fill_row.Goals as goal

pub loop-i-init : goal.loop-i-init
unfolding sound_row
loop-i-init c = refl

pub loop-i-preserved : goal.loop-i-preserved
unfolding sound_row
loop-i-preserved c =
    let l = c.loop-i in
    let a = c.args in
    let v : to_z w32 (of_z w32 c.number_at.result) ≡ sound_number a.n a.m a.word a.positions.now l.i =
    to_z-of_z {w = w32} (record { sfits = c.number_at.type_inv }) ∙ c.number_at.ensures in
    rw (add-one l.i, v) (take-suc-set l.v-items l.i (sound_number a.n a.m a.word a.positions.now l.i) (omega arith) ∙ rw l.invariant)
