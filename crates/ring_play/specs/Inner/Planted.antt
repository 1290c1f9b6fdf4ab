-- What a receiver settles in a confession round, from what the links give all unstruck receivers and what is planted to it.
use Rattle.std.specs.Prelude.{◌≡◌, ℕ, Bool, true, false, cond, ◌&&◌, List, ℤ, pos, nat_lt, slice_index_or, Some}
use Rattle.terms.specs.Positions.{is_position, rounding}
use Rattle.marks.specs.Marks.{bit_of}
use Rattle.terms.specs.Counting.{Each}
use Rattle.convergence.specs.Settling.{two_round_rule}
use Rattle.convergence.specs.Trust.{Given, nothing, says_of, trusted}
use Rattle.frame_spec.specs.Said.{said}
use Rattle.settle_midpoint.specs.Answers.{settling}
use Rattle.head_spec.specs.Record.{given_of}
use Rattle.ring_play.specs.declared.Stage.{Stage}
use Rattle.ring_play.specs.Memory.{heads, settles, position_of}

-- whether head k is played and struck in this round
abbrev pub is_struck : Stage → ℕ → Bool
is_struck s k = nat_lt k (heads s) && bit_of s.struck k

-- what link k gives receiver i: what is planted, or what it gives all
unfoldable pub given_or_planted : (s : Stage) (G : ℕ → Given) (plant : ℕ → ℕ → List ℕ) (i k : ℕ) → Given
given_or_planted s G plant i k = cond (is_struck s k) (given_of (said (heads s) s.phase 1 k (plant k i))) (G k)

-- the position that a receiver settles, from what its links give
unfoldable pub position_settled : Stage → (ℕ → Given) → ℤ
position_settled s G = position_of (settling (rounding s.phase) (heads s) (two_round_rule s.f) (trusted (heads s) s.f G))

-- G is what unstruck heads can give all: nothing comes from struck heads, and lists hold positions in range
pub record Alike (s : Stage) (G : ℕ → Given) : Type 0 where
  pub untold : (k : ℕ) → is_struck s k ≡ true → G k ≡ nothing
  pub ranged : Each (heads s) (λ k. Each (heads s) (λ j. (u : ℤ) → says_of j (G k) ≡ Some u → is_position u ≡ true))

-- each unstruck receiver has settled, and the other positions are as they were
abbrev pub AllSettled : (s : Stage) (G : ℕ → Given) (plant : ℕ → ℕ → List ℕ) (before after : List ℤ) → Type 0
AllSettled s G plant before after =
    (i : ℕ) → slice_index_or after i (pos 0) ≡ cond (settles s i) (position_settled s (given_or_planted s G plant i)) (slice_index_or before i (pos 0))

-- the answer is yes if all have settled
pub record SettlesAll (answer : Bool) (s : Stage) (G : ℕ → Given) (plant : ℕ → ℕ → List ℕ) (before after : List ℤ) : Type 0 where
  pub settles : answer ≡ true → Alike s G → AllSettled s G plant before after
  pub stays : answer ≡ false → after ≡ before
