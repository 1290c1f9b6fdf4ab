-- What C reads of heads (document 02, A14): a reading as a number and floats, and the readings of heads whose blocks follow one another.
use Rattle.std.specs.Prelude.{cond, List, [], ◌∷◌, ℕ, ◌*◌, ◌/◌, ltb, length, take, drop, set, Float}
use Rattle.head_spec.specs.Kept.{LastKept}
use Rattle.head_spec.specs.Offers.{Offering}
use Rattle.reading.specs.declared.Reading.{Reading}
use Rattle.reading.specs.Readings.{head_reading}
use Rattle.reading.specs.Heads.{ReadsAdopted}
use Rattle.head_c.specs.Blocks.{up_to, head_of, offer_of}
use Rattle.head_c.specs.Made.{Made}

-- 0 unknown, 1 a point, 2 a range
abbrev pub reading_kind : Reading → ℕ
reading_kind Reading.Unknown = 0
reading_kind (Reading.Point x) = 1
reading_kind (Reading.Range k) = 2

-- three floats after it: a point changes the first, a range all, and nothing is changed if it is unknown
abbrev pub floats_or : Reading → List Float → List Float
floats_or Reading.Unknown old = old
floats_or (Reading.Point x) old = set old 0 x
floats_or (Reading.Range k) old = k.lowest ∷ k.highest ∷ k.midpoint ∷ []

-- the block of head k
abbrev pub block_at : List ℕ → ℕ → List ℕ
block_at w k = take 1116 (drop (1116 * k) w)

-- its reading; a head whose block is not there in full has none (Q103)
unfoldable pub reading_at : List ℕ → ℕ → Reading
reading_at w k = cond (ltb k (length w / 1116)) (head_reading (head_of (block_at w k))) Reading.Unknown

-- those of 32 heads
unfoldable pub readings_of : List ℕ → List Reading
readings_of w = up_to 32 (reading_at w)

-- of a block that C's calls made: unknown while nothing was adopted since its start or restart, else a point or a range of what was adopted
-- last, x; an offer does not show
abbrev pub MadeReads : Type 0
MadeReads = (w : List ℕ) → Made w → (x : LastKept) × (Offering (head_of w) (offer_of w) x × ReadsAdopted x (head_reading (head_of w)))
