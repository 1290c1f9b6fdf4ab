-- `run_whole::fill_row` meets its contract: before place i the first i numbers of the row are in their places.
use Rattle.std.proofs.Common.{◌≡◌, take}
use Rattle.run_whole.specs.Inner.{sound_row}
use Rattle.run_whole.proofs.fill_row.Given as goal

abbrev pub invariant-loop-i : goal.invariant-loop-i
invariant-loop-i l = take l.i l.v-items ≡ sound_row l.n l.m l.word l.positions l.i
