-- Phases since the last strike (document 02, A10), as the player keeps them: a number for each head and listener, at the place of its own
-- number.
use Rattle.std.specs.Prelude.{Bool, cond, List, ◌≡◌, ℕ, zero, suc, ◌+◌, min, length, get_or, set}
use Rattle.terms.specs.declared.Family.{Family}
use Rattle.marks.specs.Marks.{bit_of}
use Rattle.terms.specs.Counting.{Each}
use Rattle.head_spec.specs.Seats.{most_counted}
use Rattle.ring_spec.specs.Rounds.{Round, receivers, ends_phase}
use Rattle.ring_spec.specs.Converges.{count_after}
use Rattle.run_state.specs.declared.Player.{Player}

-- the numbers l are the counts of all receivers after the rounds ws; of one that the last round marks, 0 (Q91)
pub record CountsOf (K : Family) (ws : List Round) (l : List ℕ) : Type 0 where
  pub long : length l ≡ receivers
  pub counts : Each receivers (λ i. get_or l i 0 ≡ count_after K ws i)

-- a phase end more, for each of the first k
unfoldable pub aged : ℕ → List ℕ → List ℕ
aged zero l = l
aged (suc j) l = set (aged j l) j (min most_counted (get_or l j 0 + 1))

-- of the first k, those that the mark word marks begin anew
unfoldable pub cleared : ℕ → ℕ → List ℕ → List ℕ
cleared zero marks l = l
cleared (suc j) marks l = cond (bit_of marks j) (set (cleared j marks l) j 0) (cleared j marks l)

-- what a round makes of them; ends: it ends a phase
abbrev pub counts_then : Bool → ℕ → List ℕ → List ℕ
counts_then ends marks l = cleared receivers marks (cond ends (aged receivers l) l)

-- when the pending round, if there is one, is played
abbrev pub counts_played : Player → List ℕ
counts_played p = cond p.pending (counts_then (ends_phase p.family p.given) p.struck p.since) p.since
