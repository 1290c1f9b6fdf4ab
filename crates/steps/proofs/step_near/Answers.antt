-- `steps::step_near` meets its contract: no other number of steps than the candidate reads so, and it is asked for its own reading if it is in range.
use mathlib.Core.Path.{◌≡◌, sym, ◌∙◌, ap}
use mathlib.Core.Bool.{true}
use Prim.Native.Nat.{ℕ}
use lib.IntN.{ℤ}
use mir.Syntax.{w32, w64}
use mir.Val.{SFits, to_z, of_z}
use mir.Facts.{to_z-of_z}
use Rattle.terms.specs.Positions.{is_position}
use Rattle.terms.proofs.Machine.{read, position_fits}
use Rattle.steps.specs.Unscale.{OnlyOne}
use Rattle.steps.specs.Unscale.UnscaleAnswer.{step}
use Rattle.steps.proofs.NoStep.{below_range, above_range, in_range, out_of_range, reads_otherwise}
use Rattle.steps.proofs.step_near.Goals as goal

-- the candidate, as the machine reads it
only_read : {x y : ℤ} (a d : ℕ) → SFits w64 x → SFits w64 y → OnlyOne (read w64 x) a d y → OnlyOne x a d (read w64 y)
only_read a d f g o w e = o w (e ∙ sym (to_z-of_z f)) ∙ sym (to_z-of_z g)

-- a candidate in range, and cast to 32 bits
module _ (y : ℤ) (p : is_position y ≡ true) where
  steps_are : read w32 y ≡ y
  steps_are = to_z-of_z (position_fits y p)

  steps_in_range : is_position (read w32 y) ≡ true
  steps_in_range = ap is_position steps_are ∙ p

  only_steps : (x : ℤ) (a d : ℕ) → OnlyOne x a d y → OnlyOne x a d (read w32 y)
  only_steps x a d o w e = o w e ∙ sym steps_are

pub returns-then-only-ltminus1000000 : goal.returns-then-only-ltminus1000000
returns-then-only-ltminus1000000 c =
    out_of_range _ _ _ c.requires.1 _ (only_read _ _ c.ranges.reading (record { sfits = c.candidate-only.type_inv }) c.candidate-only.ensures)
    (below_range _ c.if-only-ltminus1000000.true)

pub returns-then-only-gt1000000 : goal.returns-then-only-gt1000000
returns-then-only-gt1000000 c =
    out_of_range _ _ _ c.requires.1 _ (only_read _ _ c.ranges.reading (record { sfits = c.candidate-only.type_inv }) c.candidate-only.ensures)
    (above_range _ c.if-only-gt1000000.true)

pub overflow_cast-steps : goal.overflow_cast-steps
overflow_cast-steps c = position_fits _ (in_range _ c.if-only-ltminus1000000.false c.if-only-gt1000000.false)

pub nanometres_of-reads-requires : goal.nanometres_of-reads-requires
nanometres_of-reads-requires c = (steps_in_range (read w64 c.candidate-only.result) (in_range _ c.if-only-ltminus1000000.false c.if-only-gt1000000.false), c.requires.1)

pub returns-then-reads-reading : goal.returns-then-reads-reading
returns-then-reads-reading c =
    step c.requires.1 _ (
      steps_in_range (read w64 c.candidate-only.result) (in_range _ c.if-only-ltminus1000000.false c.if-only-gt1000000.false),
      sym c.nanometres_of-reads.ensures
          ∙ sym (to_z-of_z {w = w64} (record { sfits = c.nanometres_of-reads.type_inv }))
          ∙ ap (to_z w64) c.if-reads-reading.true
          ∙ to_z-of_z c.ranges.reading,
    )

pub returns-else-reads-reading : goal.returns-else-reads-reading
returns-else-reads-reading c =
    reads_otherwise _ _ _ c.requires.1 _
    (only_steps (read w64 c.candidate-only.result) (in_range _ c.if-only-ltminus1000000.false c.if-only-gt1000000.false) _ _ _
    (only_read _ _ c.ranges.reading (record { sfits = c.candidate-only.type_inv }) c.candidate-only.ensures))
    (λ e. c.if-reads-reading.false (ap (of_z w64) (c.nanometres_of-reads.ensures ∙ e)))
