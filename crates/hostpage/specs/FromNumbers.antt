-- A head's line from whole numbers alone, with no float in it: the digits of `bits_of` (crates/reading/specs/Bits.antt).
-- proofs/FromNumbers.antt proves that it is the line of the head's reading.
use Rattle.std.specs.Prelude.{◌≡◌, cond, ◌&&◌, List, ℕ, ℤ, ◌+ℤ◌, None, Some}
use Rattle.terms.specs.Positions.{is_position, eq_z}
use Rattle.texts.specs.Numbers.{decimal, hex, spaced}
use Rattle.head_spec.specs.Kept.{LastKept}
use Rattle.reading.specs.Readings.{reading_of}
use Rattle.reading.specs.Bits.{bits_of}
use Rattle.hostpage.specs.Page.{line_ended, unknown, point, range, reading_line}

-- z / 2 ^ k
abbrev pub digits_of : ℕ → ℤ → List ℕ
digits_of k z = hex 8 (bits_of k z)

unfoldable pub text_between : ℤ → ℤ → List ℕ
text_between low high =
    cond (is_position low && is_position high)
    (cond (eq_z low high)
    (spaced point (line_ended (digits_of 0 low)))
    (spaced range (spaced (digits_of 0 low) (spaced (digits_of 0 high) (line_ended (digits_of 1 (low +ℤ high)))))))
    (line_ended unknown)

abbrev pub kept_text : LastKept → List ℕ
kept_text None = line_ended unknown
kept_text (Some k) = text_between k.low k.high

abbrev pub LineFromNumbers : Type 0
LineFromNumbers = (head : ℕ) (kept : LastKept) → reading_line head (reading_of kept) ≡ spaced (decimal head) (kept_text kept)
