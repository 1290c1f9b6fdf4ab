-- Document 01, "The step scale".
use Rattle.std.specs.Prelude.{Bool, ◌&&◌, ℕ, leb, ℤ, pos, ◌*ℤ◌, Ok, Err}
use Rattle.terms.specs.Refusals as refusal
use Rattle.terms.specs.Refusals.{check, unless_refused}
use Rattle.terms.specs.Positions.{is_position, floor_div}
use Rattle.steps.specs.Answers.{Scaled}

-- from 1 to 1,000,000
abbrev pub in_scale : ℕ → Bool
in_scale x = leb 1 x && leb x 1_000_000

-- numerator a and denominator d, the numerator at least the denominator
unfoldable pub is_scale : ℕ → ℕ → Bool
is_scale a d = in_scale a && in_scale d && leb d a

-- steps times numerator, divided by denominator, rounded down
unfoldable pub nanometres : ℤ → ℕ → ℕ → ℤ
nanometres v a d = floor_div (v *ℤ pos a) d

-- 12, then 4 (P40c)
unfoldable pub scale_refusal : ℤ → ℕ → ℕ → ℕ
scale_refusal v a d = check (is_scale a d) refusal.bad_scale (check (is_position v) refusal.position_out_of_range 0)

-- a refusal gives only its number
unfoldable pub scaled : ℤ → ℕ → ℕ → Scaled
scaled v a d = unless_refused Err (scale_refusal v a d) (Ok (nanometres v a d))
