-- A14: a reading is unknown before the first phase end since the start or restart, a point where the two kept entries are equal, and
-- otherwise a range: the lowest, the highest and their midpoint, which is not rounded to a step.
use Rattle.std.specs.Prelude.{cond, ◌&&◌, ℤ, ◌+ℤ◌, None, Some}
use Rattle.terms.specs.Positions.{is_position, eq_z}
use Rattle.head_spec.specs.Kept.{LastKept}
use Rattle.head_spec.specs.declared.Head.{Head}
use Rattle.reading.specs.declared.KeptRange.{KeptRange}
use Rattle.reading.specs.declared.Reading.{Reading}
use Rattle.reading.specs.Exact.{exact}

-- the lowest, the highest, and half their sum
unfoldable pub range_of : ℤ → ℤ → KeptRange
range_of low high = record { lowest = exact 0 low; highest = exact 0 high; midpoint = exact 1 (low +ℤ high) }

-- of two kept entries (Q102)
abbrev pub kept_reading : ℤ → ℤ → Reading
kept_reading low high = cond (eq_z low high) (Reading.Point (exact 0 low)) (Reading.Range (range_of low high))

-- of any two numbers: what is no position was never kept
unfoldable pub reading_between : ℤ → ℤ → Reading
reading_between low high = cond (is_position low && is_position high) (kept_reading low high) Reading.Unknown

-- of what a head holds of its last phase end
abbrev pub reading_of : LastKept → Reading
reading_of None = Reading.Unknown
reading_of (Some k) = reading_between k.low k.high

-- of a head (Q101)
abbrev pub head_reading : Head → Reading
head_reading h = reading_of h.seat.kept
