-- What a receiver counts and settles, from what is shared and what is planted to it.
use Rattle.std.specs.Prelude.{◌≡◌, ℕ, ◌+◌, ◌-◌, ◌<◌, false, cond, List, ℤ, pos, slice_index, slice_index_or, None, Some, Option}
use Rattle.terms.specs.Entry.{Entry}
use Rattle.marks.specs.Marks.{bit_of, with_mark, count_below}
use Rattle.terms.specs.Counting.{Each, sum}
use Rattle.convergence.specs.Settling.{two_round_rule}
use Rattle.convergence.specs.Trust.{Given, has_confessed, confessions}
use Rattle.terms.specs.Positions.{rounding}
use Rattle.frame_spec.specs.Said.{said}
use Rattle.settle_midpoint.specs.Answers.{settling}
use Rattle.ring_play.specs.Inner.Codes.{entry_of, entry_in, code_taken, holds}
use Rattle.ring_play.specs.Inner.Shares.{Shares}
use Rattle.head_spec.specs.Record.{given_of}
use Rattle.ring_play.specs.declared.Stage.{Stage}
use Rattle.ring_play.specs.Memory.{heads, position_of}
use Rattle.ring_play.specs.Inner.Planted.{is_struck}

-- what is planted on the link from k to i gives
abbrev pub planted_given : (s : Stage) (plant : ℕ → ℕ → List ℕ) (i k : ℕ) → Given
planted_given s plant i k = given_of (said (heads s) s.phase 1 k (plant k i))

-- link k gave g: how many lists have the codes, and which links confessed
pub record Counted (n : ℕ) (codes : List ℤ) (k : ℕ) (g : Given) (same : List ℕ) (confessed : ℕ) (same' : List ℕ) (confessed' : ℕ) : Type 0 where
  pub counts : Each n (λ j. slice_index same j < 4294967295 → slice_index same' j ≡ slice_index same j + holds j (slice_index_or codes j (pos 0)) g)
  pub confesses : confessed' ≡ cond (has_confessed g) (with_mark confessed k) confessed

-- the struck links gave receiver i what is planted
pub record Told (s : Stage) (plant : ℕ → ℕ → List ℕ) (i : ℕ) (codes : List ℤ) (same same' : List ℕ) (confessed : ℕ) : Type 0 where
  pub counts : Each (heads s) (λ j. slice_index same' j
      ≡ slice_index same j + sum (heads s) (λ k. cond (bit_of s.struck k) (holds j (slice_index_or codes j (pos 0)) (planted_given s plant i k)) 0))
  pub confesses : (k : ℕ) → bit_of confessed k ≡ cond (is_struck s k) (has_confessed (planted_given s plant i k)) false

-- what is given to all shows these codes and counts; need: how many lists are needed
pub record SharedBy (s : Stage) (need : ℕ) (codes : List ℤ) (counts : List ℕ) : Type 0 where
  pub given : ℕ → Given
  pub shares : Shares (heads s) s.f (count_below s.struck (heads s)) given codes counts
  pub needed : need ≡ heads s - s.f - confessions (heads s) given

-- the position that a receiver settles, from its trusted entries
unfoldable pub settled_by : Stage → (ℕ → Entry) → ℤ
settled_by s E = position_of (settling (rounding s.phase) (heads s) (two_round_rule s.f) E)

-- from their codes
abbrev pub settled_at : Stage → List ℤ → ℤ
settled_at s codes = settled_by s (entry_in codes)

-- how many lists a receiver needs if these links confessed to it too
abbrev pub needed_here : Stage → ℕ → ℕ → ℕ
needed_here s need confesses = need - count_below confesses (heads s)

-- the entries that it takes, from the shared codes and from how many lists it counted for each
abbrev pub taken_here : (s : Stage) (need : ℕ) (codes : List ℤ) (same : List ℕ) (confesses j : ℕ) → Entry
taken_here s need codes same confesses j = entry_of (code_taken codes same (needed_here s need confesses) confesses j)

-- what was settled earlier, if anything, was settled from these codes
abbrev pub EarlierOf : Stage → Option ℤ → List ℤ → Type 0
EarlierOf s None codes = Unit {0}
EarlierOf s (Some p) codes = p ≡ settled_at s codes
