-- Reading, cut into the steps of the code: what the checks from one on give, and what a frame says after them. The kind is the one read of
-- the frame.
use Rattle.std.specs.Prelude.{ℕ, List, eqb, Result, Ok, Err}
use Rattle.terms.specs.Refusals as refusal
use Rattle.terms.specs.Refusals.{check, unless_refused}
use Rattle.terms.specs.Refused.{number}
use Rattle.terms.specs.declared.refusal.Refusal.{Refusal}
use Rattle.frame_check.specs.Check.{Kind, sender_field, phase_field}
use Rattle.frame_spec.specs.declared.Said.{Said}
use Rattle.frame_spec.specs.Said.{round_of, count_fits, range_fits, refused, meaning, said_of}

-- 10, 11, of the rest t
abbrev pub from_marks : Kind → ℕ → List ℕ → ℕ
from_marks K n t = check (count_fits K n t) refusal.bad_count_or_marks (check (range_fits K n t) refusal.entry_out_of_range 0)

-- 22, 9, 23, and 0 if none of them
unfoldable pub common_refusal : (K : Kind) (p r k : ℕ) (s : List ℕ) → ℕ
common_refusal K p r k s =
    check (eqb (round_of K) r) refusal.other_round (check (eqb (sender_field s) k) refusal.sender_is_not_link (check (eqb (phase_field s) p) refusal.other_phase 0))

-- what a frame of a kind says, if checks gave a number
abbrev pub said_unless : (number : ℕ) (K : Kind) (n : ℕ) (t : List ℕ) → Said
said_unless number K n t = said_of (unless_refused refused number (meaning K n t))

-- what is told of a frame that was read, or refused
abbrev pub told : Result Said Refusal → Said
told (Ok s) = s
told (Err e) = Said.Refused (number e)
