-- An answer as C gets it: 0 or the refusal's number, and the result in memory that the caller lends, which a refusal leaves as it was.
use Rattle.std.specs.Prelude.{List, [], ◌∷◌, ◌≡◌, ℕ, ℤ, pos, negsuc, Ok, Err, None, Some}
use Rattle.terms.specs.declared.Family.{Family}
use Rattle.settle_midpoint.specs.Settled.{Settled}
use Rattle.settle_limits.specs.Ranged.{Ranged}
use Rattle.settle_limits.specs.Call as limits-call
use Rattle.settle_reach.specs.Reached.{Reached}
use Rattle.settle_reach.specs.Call as reach-call
use Rattle.steps.specs.Answers.{Scaled, Unscaled}
use Rattle.steps.specs.Unscale.{UnscaleAnswer}

-- of the midpoint: the new position, or what was there (P40)
abbrev pub settled_or : Settled → ℤ → ℤ
settled_or (Err c) old = old
settled_or (Ok k) old = k.position

-- and with what it kept: lowest, highest, trim, new position
abbrev pub kept_or : Settled → List ℤ → List ℤ
kept_or (Err c) old = old
kept_or (Ok k) old = k.low ∷ k.high ∷ pos k.trim ∷ k.position ∷ []

-- of limits: the number, and the lowest and the highest new position, or what was there
abbrev pub ranged_number : Ranged → ℕ
ranged_number (Err c) = c
ranged_number (Ok (low, high)) = 0

abbrev pub ranged_or : Ranged → List ℤ → List ℤ
ranged_or (Err c) old = old
ranged_or (Ok (low, high)) old = low ∷ high ∷ []

-- the number r and the lent pair are those of an answer for limits
pub record RangeLent (n f p marks : ℕ) (s : List ℕ) (r : ℕ) (old new : List ℤ) : Type 0 where
  pub answer : Ranged
  pub means : limits-call.LimitsAnswer n f p marks s answer
  pub number : r ≡ ranged_number answer
  pub lent : new ≡ ranged_or answer old

-- of the scale: the number, and the nanometres or what was there
abbrev pub scaled_number : Scaled → ℕ
scaled_number (Err c) = c
scaled_number (Ok x) = 0

abbrev pub scaled_or : Scaled → ℤ → ℤ
scaled_or (Err c) old = old
scaled_or (Ok x) old = x

-- -2^31 is none; it is no position, so it cannot be mistaken for one (Q17, Q100)
abbrev pub no_step : ℤ
no_step = negsuc 2_147_483_647

-- of an open entry: the number, and the position for it, `no_step` or what was there
abbrev pub reached_number : Reached → ℕ
reached_number (Err c) = c
reached_number (Ok None) = 0
reached_number (Ok (Some u)) = 0

abbrev pub reached_or : Reached → ℤ → ℤ
reached_or (Err c) old = old
reached_or (Ok None) old = no_step
reached_or (Ok (Some u)) old = u

-- the number r and the lent position are those of an answer for the wanted position x, with entry j open
pub record PositionLent (K : Family) (n f p j marks : ℕ) (s : List ℕ) (x : ℤ) (r : ℕ) (old new : ℤ) : Type 0 where
  pub answer : Reached
  pub means : reach-call.ReachAnswer K n f p j marks s x answer
  pub number : r ≡ reached_number answer
  pub lent : new ≡ reached_or answer old

-- of a reading: the number, and the step, `no_step` or what was there
abbrev pub step_number : Unscaled → ℕ
step_number (Err c) = c
step_number (Ok None) = 0
step_number (Ok (Some v)) = 0

abbrev pub step_or : Unscaled → ℤ → ℤ
step_or (Err c) old = old
step_or (Ok None) old = no_step
step_or (Ok (Some v)) old = v

-- the number r and the lent step are those of an answer for the reading x by the scale a / d
pub record StepLent (x : ℤ) (a d r : ℕ) (old new : ℤ) : Type 0 where
  pub answer : Unscaled
  pub means : UnscaleAnswer x a d answer
  pub number : r ≡ step_number answer
  pub lent : new ≡ step_or answer old
