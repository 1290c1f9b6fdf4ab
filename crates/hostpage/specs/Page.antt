-- A14, the host page: for each head a line with its number, then `unknown`, `point` or `range`, then none, one or three floats, each as its
-- bits in eight lower-case hexadecimal digits, parted by single spaces. Bytes are ASCII.
use Rattle.std.specs.Prelude.{cond, List, [], ◌∷◌, ◌++◌, ℕ, zero, suc, get_or, Float, Err}
use Rattle.std.specs.Float.{binary32}
use Rattle.std.specs.Float.Ieee.{to_bits}
use Rattle.terms.specs.Refusals as refusal
use Rattle.terms.specs.Sizes.{is_count}
use Rattle.texts.specs.Numbers.{decimal, hex, spaced}
use Rattle.frame_spec.specs.Length.{Written}
use Rattle.frame_spec.specs.Written.{written, buffered}
use Rattle.reading.specs.declared.KeptRange.{KeptRange}
use Rattle.reading.specs.declared.Reading.{Reading}

-- ---- lines

-- with the line's end
abbrev pub line_ended : List ℕ → List ℕ
line_ended s = s ++ (10 ∷ [])

-- "unknown", "point", "range"
abbrev pub unknown : List ℕ
unknown = 117 ∷ 110 ∷ 107 ∷ 110 ∷ 111 ∷ 119 ∷ 110 ∷ []

abbrev pub point : List ℕ
point = 112 ∷ 111 ∷ 105 ∷ 110 ∷ 116 ∷ []

abbrev pub range : List ℕ
range = 114 ∷ 97 ∷ 110 ∷ 103 ∷ 101 ∷ []

-- the bits of a float
unfoldable pub float_text : Float → List ℕ
float_text x = hex 8 (to_bits binary32 x)

unfoldable pub range_text : KeptRange → List ℕ
range_text k = spaced range (spaced (float_text k.lowest) (spaced (float_text k.highest) (line_ended (float_text k.midpoint))))

abbrev pub reading_text : Reading → List ℕ
reading_text Reading.Unknown = line_ended unknown
reading_text (Reading.Point x) = spaced point (line_ended (float_text x))
reading_text (Reading.Range k) = range_text k

-- the line of a head: its number, and its reading (Q105)
unfoldable pub reading_line : ℕ → Reading → List ℕ
reading_line head r = spaced (decimal head) (reading_text r)

-- ---- the page

-- the lines of heads 0 to n - 1 (Q103)
unfoldable pub page_of : ℕ → List Reading → List ℕ
page_of zero rs = []
page_of (suc k) rs = page_of k rs ++ reading_line k (get_or rs k Reading.Unknown)

-- 1, then 24, else the page's length (Q103)
unfoldable pub page_answer : ℕ → List Reading → List ℕ → Written
page_answer n rs buffer = cond (is_count n) (written (page_of n rs) buffer) (Err refusal.bad_head_count)

-- the page at the front, and the bytes after it as they were; a refusal leaves all as it was (Q104)
unfoldable pub page_in : ℕ → List Reading → List ℕ → List ℕ
page_in n rs buffer = cond (is_count n) (buffered (page_of n rs) buffer) buffer
