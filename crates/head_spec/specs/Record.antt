-- The head's record as a round opens, and how what it received is read.
use Rattle.std.specs.Prelude.{List, map, ℕ, replicate, ℤ, None}
use Rattle.terms.specs.Entry.{Entry}
use Rattle.terms.specs.declared.Family.{Family}
use Rattle.terms.specs.declared.Family.TheVariants.{TwoRounds, OneRound}
use Rattle.terms.specs.declared.Table.{Table}
use Rattle.entries.specs.Entries.{zeros}
use Rattle.entries.specs.Tables.{table_at}
use Rattle.convergence.specs.Trust as Trust
use Rattle.convergence.specs.Trust.{Given, trusted}
use Rattle.frame_spec.specs.Said.{Meaning, refused, collected, listed, confessed}
use Rattle.settle_trust.specs.declared.Links.{Links}
use Rattle.settle_trust.specs.Received.{given_by}
use Rattle.head_spec.specs.declared.Row.{Row}
use Rattle.head_spec.specs.declared.Seat.{Seat}
use Rattle.head_spec.specs.declared.Head.{Head}

-- all entries null
unfoldable pub no_entries : Table
no_entries = record { marks = 0; entries = zeros }

-- no link gave anything
unfoldable pub no_links : Links
no_links = record { confessed = 0; listed = 0; marks = replicate 32 0 }

unfoldable pub no_lists : List Row
no_lists = replicate 32 (record { entries = zeros })

-- The record with nothing heard, in this seat and with this list. Start, restart and closing make a record here and nowhere else (P30).
abbrev pub opened : Seat → Table → Head
opened s t = record { seat = s; heard = 0; list = t; links = no_links; lists = no_lists }

-- the lists received, without their marks
abbrev pub rows : List Row → List (List ℤ)
rows l = map (λ (r : Row). r.entries) l

-- what link k gave
abbrev pub given : Head → ℕ → Given
given h = given_by h.links (rows h.lists)

-- the trusted entries
abbrev pub trusted_by : Head → ℕ → Entry
trusted_by h = trusted h.seat.n h.seat.f (given h)

-- the entries from which a phase end settles: in a ring of two rounds those that are trusted, in one of one round those that were heard
abbrev pub entries_by : Family → Head → ℕ → Entry
entries_by TwoRounds h = trusted_by h
entries_by OneRound h = table_at h.list

-- ---- what a frame that was heard amounts to

-- in a round in which positions are sent: the entry that was said, null if no position was (D16d)
abbrev pub heard_entry : Meaning → Entry
heard_entry (refused c) = None
heard_entry (collected e) = e
heard_entry (listed t) = None
heard_entry confessed = None

-- in a confession round: what the link gave (D16d)
abbrev pub given_of : Meaning → Given
given_of (refused c) = Trust.nothing
given_of (collected e) = Trust.nothing
given_of (listed t) = Trust.gave (table_at t)
given_of confessed = Trust.confessed
