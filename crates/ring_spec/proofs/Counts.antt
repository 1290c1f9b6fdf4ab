-- How far a ring has come, by the number of rounds played: the phase and the round that it stands in, and how many phase ends there are.
use mathlib.Core.Path.{◌≡◌, refl, sym}
use mathlib.Core.Bool.{true, true≢false}
use mathlib.Core.List.{List, [], ◌∷◌}
use Prim.Native.Nat.{ℕ, zero, suc, ◌+◌, ◌*◌, ◌%◌, ◌≤◌, ◌<◌}
use native.Mathlib.Omega.{arith}
use lib.ListN.{length}
use lib.IntN.{ℤ}
use borrow.Author.Tests.{eq-eqb, ne_eqb}
use Rattle.terms.specs.declared.Family.{Family}
use Rattle.terms.specs.declared.Family.TheVariants.{TwoRounds, OneRound}
use Rattle.terms.specs.Sizes.{rounds_of, ends_with}
use Rattle.ring_spec.specs.Rounds.{Round, phase_of, ends_phase, most_rounds, phase_then, round_then, after_round, PhaseEnd, with_end, ring_after, ends_after}

-- of a number of rounds, with the phase and the round that come next
pub record Counted (K : Family) (rounds ends phase round : ℕ) : Type 0 where
  pub played : rounds + rounds_of K ≡ rounds_of K * phase + round
  pub small : round < rounds_of K
  pub counts : ends ≡ phase

counted_next : (K : Family) {rounds phase : ℕ} (round : ℕ) (e : PhaseEnd) (es : List PhaseEnd) → Counted K rounds (length es) phase round
    → let b = ends_with K round in Counted K (suc rounds) (length (with_end b e es)) (phase_then b phase) (round_then b)
counted_next TwoRounds zero e es C = omega arith
counted_next TwoRounds (suc r) e es C = omega arith
counted_next OneRound r e es C = omega arith

pub counted : (K : Family) (n f : ℕ) (v : ℕ → ℤ) (ws : List Round)
    → Counted K (length ws) (length (ends_after K n f v ws)) (ring_after K n f v ws).phase (ring_after K n f v ws).round
unfolding ring_after ends_after after_round
counted TwoRounds n f v [] = omega arith
counted OneRound n f v [] = omega arith
counted K n f v (w ∷ ws) = counted_next K (ring_after K n f v ws).round _ (ends_after K n f v ws) (counted K n f v ws)

-- up to the last round of phase 65,535
pub phase_most : (K : Family) {rounds ends phase round : ℕ} → Counted K rounds ends phase round → rounds < most_rounds K → phase ≤ 65535
phase_most TwoRounds C l = omega arith
phase_most OneRound C l = omega arith

pub phase_more : (K : Family) {rounds ends phase round : ℕ} → Counted K rounds ends phase round → ends_with K round ≡ true → suc rounds < most_rounds K → phase < 65535
phase_more TwoRounds {round = zero} C e l = absurd (true≢false (sym e))
phase_more TwoRounds {round = suc r} C e l = omega arith
phase_more OneRound C e l = omega arith

-- the next round, by its number: its phase, and whether it is the last of it
module _ (K : Family) (n f : ℕ) (v : ℕ → ℤ) (ws : List Round) where
  pub next_phase : (ring_after K n f v ws).phase ≡ phase_of K (length ws + 1)
  next_phase = go K (counted K n f v ws)
    where
      go : (K : Family) {rounds ends phase round : ℕ} → Counted K rounds ends phase round → phase ≡ phase_of K (rounds + 1)
      go TwoRounds C = omega arith
      go OneRound C = omega arith

  pub next_ends : ends_phase K (length ws + 1) ≡ ends_with K (ring_after K n f v ws).round
  next_ends = go K _ (counted K n f v ws)
    where
      go : (K : Family) {rounds ends phase : ℕ} (round : ℕ) → Counted K rounds ends phase round → ends_phase K (rounds + 1) ≡ ends_with K round
      go TwoRounds {rounds = c} zero C = ne_eqb ((c + 1) % 2) 0 (λ z. omega arith)
      go TwoRounds {rounds = c} (suc r) C = eq-eqb ((c + 1) % 2) 0 (omega arith)
      go OneRound r C = refl
