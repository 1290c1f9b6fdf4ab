-- `reading::float_of` meets its contract: a position is within 2 ^ 24, where the cast loses nothing.
use mathlib.Core.Path.{sym, ap, ◌∙◌, subst}
use lib.Dec.{T}
use lib.IntN.{ℤ}
use lib.Ieee.{binary32, in_float, of_int}
use mir.Facts.{to_z-of_z}
use Rattle.reading.proofs.Exactness.{position_in_float, cast_exact}
use Rattle.reading.proofs.float_of.Goals as goal

pub int_to_float-result : goal.int_to_float-result
int_to_float-result c = subst (λ (z : ℤ). T (in_float binary32 z)) (sym (to_z-of_z c.ranges.v)) (position_in_float c.args.v c.requires)

pub returns : goal.returns
returns c = ap (of_int binary32) (to_z-of_z c.ranges.v) ∙ cast_exact c.args.v c.requires
