-- `reading::range_of` meets its contract: its three floats are those of the definition, the last by `midpoint_exact`.
use mathlib.Core.Path.{◌≡◌, ap, ◌∙◌}
use lib.Ieee.{Float, binary32, add, mul, of_bits}
use mir.Facts.{to_z-of_z}
use Rattle.reading.specs.declared.KeptRange.{KeptRange}
use Rattle.reading.specs.Exact.{exact}
use Rattle.reading.specs.Readings.{range_of}
use Rattle.reading.proofs.Exactness.{midpoint_exact}
use Rattle.reading.proofs.range_of.Goals as goal

-- three floats
abbrev three : Float → Float → Float → KeptRange
three x y z = record { lowest = x; highest = y; midpoint = z }

-- what the code does with two floats
abbrev made : Float → Float → KeptRange
made x y = three x y (mul binary32 (add binary32 x y) (of_bits binary32 0x3f00_0000))

pub returns : goal.returns
unfolding range_of
returns c =
    let a = c.args.lowest in
    let b = c.args.highest in
    let low : c.float_of-low.result ≡ exact 0 a = c.float_of-low.ensures ∙ ap (exact 0) (to_z-of_z c.ranges.lowest) in
    let high : c.float_of-high.result ≡ exact 0 b = c.float_of-high.ensures ∙ ap (exact 0) (to_z-of_z c.ranges.highest) in
    ap (λ (x : Float). made x c.float_of-high.result) low
    ∙ ap (made (exact 0 a)) high
    ∙ ap (three (exact 0 a) (exact 0 b)) (midpoint_exact a b c.requires.lowest_value c.requires.highest_value)
