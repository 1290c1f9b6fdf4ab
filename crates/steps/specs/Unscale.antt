-- Document 02, A4: from nanometres back to steps.
use Rattle.std.specs.Prelude.{◌≡◌, true, false, ℕ, ℤ, Ok, None, Some, Err}
use Rattle.terms.specs.Refusals as refusal
use Rattle.terms.specs.Positions.{is_position}
use Rattle.steps.specs.Scale.{is_scale, nanometres, scaled}
use Rattle.steps.specs.Answers.{Unscaled}

-- v is a step in range, and its reading is x
abbrev pub ReadsAs : (a d : ℕ) (x v : ℤ) → Type 0
ReadsAs a d x v = (is_position v ≡ true) × (nanometres v a d ≡ x)

-- no other number of steps than v reads x
abbrev pub OnlyOne : (x : ℤ) (a d : ℕ) (v : ℤ) → Type 0
OnlyOne x a d v = (w : ℤ) → nanometres w a d ≡ x → w ≡ v

-- what is answered for the reading x: 12 if a and d make no scale; else the step in range whose reading it is, or none if no step in range
-- reads so (Q15)
pub data UnscaleAnswer (x : ℤ) (a d : ℕ) : Unscaled → Type 0 where
  refused : is_scale a d ≡ false → UnscaleAnswer x a d (Err refusal.bad_scale)
  step : is_scale a d ≡ true → (v : ℤ) → ReadsAs a d x v → UnscaleAnswer x a d (Ok (Some v))
  none : is_scale a d ≡ true → ((v : ℤ) → ReadsAs a d x v → ⊥) → UnscaleAnswer x a d (Ok None)

-- one answer at most: the numerator is at least the denominator, so no two steps have one reading (Q16)
abbrev pub OneUnscaleAnswer : Type 0
OneUnscaleAnswer = (x : ℤ) (a d : ℕ) (s t : Unscaled) → UnscaleAnswer x a d s → UnscaleAnswer x a d t → s ≡ t

-- every position, sent through the scale and back, returns as itself
abbrev pub ThroughAndBack : Type 0
ThroughAndBack = (v x : ℤ) (a d : ℕ) (s : Unscaled) → scaled v a d ≡ Ok x → UnscaleAnswer x a d s → s ≡ Ok (Some v)

-- every reading that is given a step is that step's reading
abbrev pub GivenItsReading : Type 0
GivenItsReading = (v x : ℤ) (a d : ℕ) → UnscaleAnswer x a d (Ok (Some v)) → scaled v a d ≡ Ok x
