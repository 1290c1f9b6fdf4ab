-- What head i hears in a collection round: of the unstruck heads what all hear, of the struck ones what is planted to it.
use Rattle.std.specs.Prelude.{◌≡◌, ℕ, Bool, true, cond, ◌&&◌, List, length, ℤ, pos, ◌==◌, slice_index_or, None, Some}
use Rattle.terms.specs.Entry.{Entry}
use Rattle.terms.specs.declared.Table.{Table}
use Rattle.marks.specs.Marks.{bit_of}
use Rattle.entries.specs.Tables.{table_of}
use Rattle.fields.specs.Bytes.{at2}
use Rattle.frame_check.specs.Check.{length_field, sender_field, phase_field}
use Rattle.frame_spec.specs.Said.{said}
use Rattle.head_spec.specs.Record.{heard_entry}
use Rattle.ring_play.specs.declared.Stage.{Stage}
use Rattle.convergence.specs.Settling.{one_round_rule}
use Rattle.terms.specs.Positions.{rounding}
use Rattle.settle_midpoint.specs.Answers.{settling}
use Rattle.ring_play.specs.Memory.{heads, position_of}

-- what head k sends
abbrev pub own_entry : Stage → List ℤ → ℕ → Entry
own_entry s positions k = cond (bit_of s.before k) None (Some (slice_index_or positions k (pos 0)))

-- the frame of a position from head k in phase p; the position may be out of range
unfoldable pub is_position_frame : ℕ → ℕ → List ℕ → Bool
is_position_frame p k s = length s == 11 && (length_field s == 11 && (at2 s 2 == 1 && (sender_field s == k && phase_field s == p)))

-- what is heard of head k, if these bytes come from it
unfoldable pub heard_of : Stage → List ℕ → ℕ → Entry
heard_of s bytes k = heard_entry (said (heads s) s.phase 0 k bytes)

-- what all hear: of the unstruck heads what they sent, of the struck ones nothing
unfoldable pub sent_by : Stage → List ℤ → ℕ → Entry
sent_by s positions k = cond (bit_of s.struck k) None (own_entry s positions k)

-- what head i hears of head k, with E for the unstruck heads
unfoldable pub heard_with : (s : Stage) (E : ℕ → Entry) (plant : ℕ → ℕ → List ℕ) (i k : ℕ) → Entry
heard_with s E plant i k = cond (bit_of s.struck k) (heard_of s (plant k i) k) (E k)

-- a table of entries, of which those of the struck heads are null
pub record Shared (s : Stage) (t : Table) : Type 0 where
  pub entry : ℕ → Entry
  pub is : t ≡ table_of (heads s) entry
  pub none : (k : ℕ) → bit_of s.struck k ≡ true → entry k ≡ None

-- the position that a receiver settles from these entries, in a phase of one round
unfoldable pub position_from : Stage → (ℕ → Entry) → ℤ
position_from s E = position_of (settling (rounding s.phase) (heads s) (one_round_rule s.f) E)
