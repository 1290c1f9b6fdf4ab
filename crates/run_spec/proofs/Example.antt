-- Document 01's example, played from its bytes by computation: n = 5, f = 1, positions 10 20 30 40 50, a round with head 4 struck and
-- none planted, a round with none struck. Then a file with listeners (document 02, A6). Every definition between the bytes and the
-- listing is unfolded, so the lists of bytes are the same by computing.
use mathlib.Core.Path.{◌≡◌, refl}
use mathlib.Core.List.{List, [], ◌∷◌}
use Prim.Native.Nat.{ℕ}
use Rattle.terms.specs.Sizes.{is_count, is_limit}
use Rattle.terms.specs.Positions.{is_position, floor_div, half, gap, eq_z, rounding}
use Rattle.fields.specs.Bytes.{signed_of, word_of}
use Rattle.marks.specs.Marks.{bit_of, marks_below, with_mark}
use Rattle.entries.specs.Entries.{entry_at, entries_fit, zeros, numbers}
use Rattle.terms.specs.Counting.{sum}
use Rattle.convergence.specs.Settling.{nulls, trim, insert, ordered, low_kept, high_kept, middle, midpoint, enough}
use Rattle.convergence.specs.Trust.{support, confessions, seen, trusted}
use Rattle.convergence.specs.Phases.{lowest, highest, spread}
use Rattle.frame_check.specs.Check.{check_frame}
use Rattle.frame_spec.specs.Said.{refusal_of, table_in, said}
use Rattle.frame_spec.specs.Written.{entry_bytes}
use Rattle.settle_midpoint.specs.Answers.{settling}
use Rattle.settle_trust.specs.Received.{given_by}
use Rattle.head_spec.specs.Record.{no_entries, no_links, no_lists}
use Rattle.head_spec.specs.Calls.{started, started_listener, restarted, hear_refusal, hear, hear_all, hear_each, spoken, closed_collection, closed_phase, close, adopt}
use Rattle.ring_spec.specs.Rounds.{lost, opened_at, carried, closed_at, after_round, first_heads, ring_after, ends_after}
use Rattle.run_spec.specs.RunFile.{unread, positions_fit, few_marks, pair_fits, judged, read_on, step, feed, ending, rounds_played, ends_played}
use Rattle.texts.specs.Numbers.{digits, size, decimal, hex}
use Rattle.run_spec.specs.Listing.{title, line, lines, listing_of, listing}

-- a start, a round with head 4 struck, a round with none
pub file : List ℕ
file =
    26 ∷ 0 ∷ 0x10 ∷ 0 ∷ 5 ∷ 1 ∷ 10 ∷ 0 ∷ 0 ∷ 0 ∷ 20 ∷ 0 ∷ 0 ∷ 0 ∷ 30 ∷ 0 ∷ 0 ∷ 0 ∷ 40 ∷ 0 ∷ 0 ∷ 0 ∷ 50 ∷ 0 ∷ 0 ∷ 0
    ∷ 8 ∷ 0 ∷ 0x11 ∷ 0 ∷ 0x10 ∷ 0 ∷ 0 ∷ 0
    ∷ 8 ∷ 0 ∷ 0x11 ∷ 0 ∷ 0 ∷ 0 ∷ 0 ∷ 0
    ∷ []

-- "phase low high spread collect confess", "0 10 50 40 00000000 00000000", "1 25 25 0 00000010 00000000", "end"
pub printed : List ℕ
printed =
    112 ∷ 104 ∷ 97 ∷ 115 ∷ 101 ∷ 32 ∷ 108 ∷ 111 ∷ 119 ∷ 32 ∷ 104 ∷ 105 ∷ 103 ∷ 104 ∷ 32 ∷ 115 ∷ 112 ∷ 114 ∷ 101 ∷ 97 ∷ 100 ∷ 32
    ∷ 99 ∷ 111 ∷ 108 ∷ 108 ∷ 101 ∷ 99 ∷ 116 ∷ 32 ∷ 99 ∷ 111 ∷ 110 ∷ 102 ∷ 101 ∷ 115 ∷ 115 ∷ 10
    ∷ 48 ∷ 32 ∷ 49 ∷ 48 ∷ 32 ∷ 53 ∷ 48 ∷ 32 ∷ 52 ∷ 48 ∷ 32
    ∷ 48 ∷ 48 ∷ 48 ∷ 48 ∷ 48 ∷ 48 ∷ 48 ∷ 48 ∷ 32 ∷ 48 ∷ 48 ∷ 48 ∷ 48 ∷ 48 ∷ 48 ∷ 48 ∷ 48 ∷ 10
    ∷ 49 ∷ 32 ∷ 50 ∷ 53 ∷ 32 ∷ 50 ∷ 53 ∷ 32 ∷ 48 ∷ 32
    ∷ 48 ∷ 48 ∷ 48 ∷ 48 ∷ 48 ∷ 48 ∷ 49 ∷ 48 ∷ 32 ∷ 48 ∷ 48 ∷ 48 ∷ 48 ∷ 48 ∷ 48 ∷ 48 ∷ 48 ∷ 10
    ∷ 101 ∷ 110 ∷ 100 ∷ 10
    ∷ []

-- Five heads at 10 10 14 18 18, with f = 1, and two listeners. Listener 32 is struck in the collection round, 33 in the confession round, and neither counts
-- in f. In the confession round head 4 is struck too, and confesses to 32 only: the heads settle at 14, listener 32 at 12.
pub heard : List ℕ
heard =
    26 ∷ 0 ∷ 0x10 ∷ 0 ∷ 5 ∷ 1 ∷ 10 ∷ 0 ∷ 0 ∷ 0 ∷ 10 ∷ 0 ∷ 0 ∷ 0 ∷ 14 ∷ 0 ∷ 0 ∷ 0 ∷ 18 ∷ 0 ∷ 0 ∷ 0 ∷ 18 ∷ 0 ∷ 0 ∷ 0
    ∷ 5 ∷ 0 ∷ 0x15 ∷ 0 ∷ 2
    ∷ 8 ∷ 0 ∷ 0x11 ∷ 0 ∷ 0 ∷ 0 ∷ 0 ∷ 0
    ∷ 6 ∷ 0 ∷ 0x13 ∷ 0 ∷ 1 ∷ 0
    ∷ 8 ∷ 0 ∷ 0x11 ∷ 0 ∷ 0x10 ∷ 0 ∷ 0 ∷ 0
    ∷ 6 ∷ 0 ∷ 0x13 ∷ 0 ∷ 2 ∷ 0
    ∷ 13 ∷ 0 ∷ 0x12 ∷ 0 ∷ 4 ∷ 32 ∷ 7 ∷ 0 ∷ 4 ∷ 0 ∷ 4 ∷ 1 ∷ 0
    ∷ []

-- the title, "0 10 18 8 00000000 00000000", "1 12 14 2 00000000 00000010", "end"
pub heard_printed : List ℕ
heard_printed =
    112 ∷ 104 ∷ 97 ∷ 115 ∷ 101 ∷ 32 ∷ 108 ∷ 111 ∷ 119 ∷ 32 ∷ 104 ∷ 105 ∷ 103 ∷ 104 ∷ 32 ∷ 115 ∷ 112 ∷ 114 ∷ 101 ∷ 97 ∷ 100 ∷ 32
    ∷ 99 ∷ 111 ∷ 108 ∷ 108 ∷ 101 ∷ 99 ∷ 116 ∷ 32 ∷ 99 ∷ 111 ∷ 110 ∷ 102 ∷ 101 ∷ 115 ∷ 115 ∷ 10
    ∷ 48 ∷ 32 ∷ 49 ∷ 48 ∷ 32 ∷ 49 ∷ 56 ∷ 32 ∷ 56 ∷ 32
    ∷ 48 ∷ 48 ∷ 48 ∷ 48 ∷ 48 ∷ 48 ∷ 48 ∷ 48 ∷ 32 ∷ 48 ∷ 48 ∷ 48 ∷ 48 ∷ 48 ∷ 48 ∷ 48 ∷ 48 ∷ 10
    ∷ 49 ∷ 32 ∷ 49 ∷ 50 ∷ 32 ∷ 49 ∷ 52 ∷ 32 ∷ 50 ∷ 32
    ∷ 48 ∷ 48 ∷ 48 ∷ 48 ∷ 48 ∷ 48 ∷ 48 ∷ 48 ∷ 32 ∷ 48 ∷ 48 ∷ 48 ∷ 48 ∷ 48 ∷ 48 ∷ 49 ∷ 48 ∷ 10
    ∷ 101 ∷ 110 ∷ 100 ∷ 10
    ∷ []

-- A ring of one round (document 02, A9): five heads at 0 3 10 10 8, with f = 1. In round 1 head 4 is struck, and tells head 0 that it stands at 0: head 0 settles at 5
-- and the others at 6, half of 13 rounded down. In round 2 head 4 is silent, and hears; all settle at 6.
pub single : List ℕ
single =
    26 ∷ 0 ∷ 20 ∷ 0 ∷ 5 ∷ 1 ∷ 0 ∷ 0 ∷ 0 ∷ 0 ∷ 3 ∷ 0 ∷ 0 ∷ 0 ∷ 10 ∷ 0 ∷ 0 ∷ 0 ∷ 10 ∷ 0 ∷ 0 ∷ 0 ∷ 8 ∷ 0 ∷ 0 ∷ 0 ∷ 8 ∷ 0 ∷ 17 ∷ 0 ∷ 16 ∷ 0 ∷ 0 ∷ 0 ∷ 17
    ∷ 0 ∷ 18 ∷ 0 ∷ 4 ∷ 0 ∷ 11 ∷ 0 ∷ 1 ∷ 0 ∷ 4 ∷ 1 ∷ 0 ∷ 0 ∷ 0 ∷ 0 ∷ 0 ∷ 8 ∷ 0 ∷ 17 ∷ 0 ∷ 0 ∷ 0 ∷ 0 ∷ 0 ∷ []

-- the title, "0 0 10 10 00000000 00000000", "1 5 6 1 00000010 00000000", "2 6 6 0 00000000 00000000", "end"
pub single_printed : List ℕ
single_printed =
    112 ∷ 104 ∷ 97 ∷ 115 ∷ 101 ∷ 32 ∷ 108 ∷ 111 ∷ 119 ∷ 32 ∷ 104 ∷ 105 ∷ 103 ∷ 104 ∷ 32 ∷ 115 ∷ 112 ∷ 114 ∷ 101 ∷ 97 ∷ 100 ∷ 32 ∷ 99 ∷ 111 ∷ 108 ∷ 108
    ∷ 101 ∷ 99 ∷ 116 ∷ 32 ∷ 99 ∷ 111 ∷ 110 ∷ 102 ∷ 101 ∷ 115 ∷ 115 ∷ 10 ∷ 48 ∷ 32 ∷ 48 ∷ 32 ∷ 49 ∷ 48 ∷ 32 ∷ 49 ∷ 48 ∷ 32 ∷ 48 ∷ 48 ∷ 48 ∷ 48 ∷ 48
    ∷ 48 ∷ 48 ∷ 48 ∷ 32 ∷ 48 ∷ 48 ∷ 48 ∷ 48 ∷ 48 ∷ 48 ∷ 48 ∷ 48 ∷ 10 ∷ 49 ∷ 32 ∷ 53 ∷ 32 ∷ 54 ∷ 32 ∷ 49 ∷ 32 ∷ 48 ∷ 48 ∷ 48 ∷ 48 ∷ 48 ∷ 48 ∷ 49 ∷ 48
    ∷ 32 ∷ 48 ∷ 48 ∷ 48 ∷ 48 ∷ 48 ∷ 48 ∷ 48 ∷ 48 ∷ 10 ∷ 50 ∷ 32 ∷ 54 ∷ 32 ∷ 54 ∷ 32 ∷ 48 ∷ 32 ∷ 48 ∷ 48 ∷ 48 ∷ 48 ∷ 48 ∷ 48 ∷ 48 ∷ 48 ∷ 32 ∷ 48 ∷ 48
    ∷ 48 ∷ 48 ∷ 48 ∷ 48 ∷ 48 ∷ 48 ∷ 10 ∷ 101 ∷ 110 ∷ 100 ∷ 10 ∷ []

pub record Printed : Type 0 where
  pub paper : listing file ≡ printed
  pub listeners : listing heard ≡ heard_printed
  pub one_round : listing single ≡ single_printed

pub examples : Printed
unfolding file printed heard heard_printed single single_printed unread feed step read_on judged is_count is_limit positions_fit is_position signed_of word_of few_marks marks_below bit_of
    with_mark sum ending rounds_played ends_played listing_of title lines line digits size decimal hex lowest highest spread gap ends_after
    ring_after first_heads after_round closed_at carried opened_at lost started started_listener restarted hear_all hear_each hear hear_refusal refusal_of
    check_frame said table_in entries_fit numbers zeros entry_at entry_bytes eq_z spoken close adopt closed_collection closed_phase settling enough
    nulls trim ordered insert low_kept high_kept middle midpoint half floor_div rounding trusted support confessions seen given_by
    no_entries no_links no_lists pair_fits
examples = record { paper = refl; listeners = refl; one_round = refl }
