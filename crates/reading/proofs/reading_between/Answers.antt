-- `reading::reading_between` meets its contract: its tests are the definition's, and it compares by bits.
use mathlib.Core.Path.{ap, ◌∙◌}
use mathlib.Core.Bool.{not}
use mir.Syntax.{w32}
use mir.Val.{to_z, of_z}
use lib.IntN.{ℤ}
use mir.Facts.{to_z-of_z}
use Rattle.reading.specs.Exact.{exact}
use Rattle.reading.specs.Readings.{range_of}
use Rattle.reading.proofs.Between.{out, inside, same_bits, low_out, high_out, point, range}
use Rattle.reading.proofs.reading_between.Goals as goal

pub returns-then-not-is_position : goal.returns-then-not-is_position
returns-then-not-is_position c = low_out c.args.lowest c.args.highest (out c.ranges.lowest c.is_position.ensures (ap not c.if-not-is_position.true))

pub returns-then-not-is_position-2 : goal.returns-then-not-is_position-2
returns-then-not-is_position-2 c =
    high_out c.args.lowest c.args.highest (inside c.ranges.lowest c.is_position.ensures (ap not c.if-not-is_position.false))
    (out c.ranges.highest c.is_position-2.ensures (ap not c.if-not-is_position-2.true))

pub float_of-requires : goal.float_of-requires
float_of-requires c =
    rw (to_z-of_z c.ranges.lowest) (inside c.ranges.lowest c.is_position.ensures (ap not c.if-not-is_position.false))

pub range_of-requires : goal.range_of-requires
range_of-requires c = record {
  lowest_value = rw (to_z-of_z c.ranges.lowest) (inside c.ranges.lowest c.is_position.ensures (ap not c.if-not-is_position.false));
  highest_value = rw (to_z-of_z c.ranges.highest) (inside c.ranges.highest c.is_position-2.ensures (ap not c.if-not-is_position-2.false));
}

pub returns-then-lowest-highest : goal.returns-then-lowest-highest
returns-then-lowest-highest c =
    point c.args.lowest c.args.highest (inside c.ranges.lowest c.is_position.ensures (ap not c.if-not-is_position.false))
    (inside c.ranges.highest c.is_position-2.ensures (ap not c.if-not-is_position-2.false)) (same_bits c.ranges.lowest c.ranges.highest c.if-lowest-highest.true)
    (c.float_of.ensures ∙ ap (exact 0) (to_z-of_z c.ranges.lowest))

pub returns-else-lowest-highest : goal.returns-else-lowest-highest
returns-else-lowest-highest c =
    range c.args.lowest c.args.highest (inside c.ranges.lowest c.is_position.ensures (ap not c.if-not-is_position.false))
    (inside c.ranges.highest c.is_position-2.ensures (ap not c.if-not-is_position-2.false)) (λ q. c.if-lowest-highest.false (ap (of_z w32) q))
    (c.range_of.ensures ∙ ap (λ (z : ℤ). range_of z (to_z w32 (of_z w32 c.args.highest))) (to_z-of_z c.ranges.lowest) ∙ ap (range_of c.args.lowest) (to_z-of_z c.ranges.highest))
