-- `steps::scale` meets its contract: its two tests are those of the definition, in the same order.
use Rattle.std.specs.Prelude.{Ok, Err}
use mathlib.Core.Path.{◌≡◌, sym, ◌∙◌, ap}
use mathlib.Core.Bool.{true, false}
use Prim.Native.Nat.{ℕ}
use lib.IntN.{ℤ}
use mir.Syntax.{w32, w64}
use mir.Val.{SFits}
use mir.Facts.{to_z-of_z}
use Rattle.terms.specs.Positions.{is_position}
use Rattle.steps.specs.Scale.{is_scale, nanometres, scale_refusal, scaled}
use Rattle.terms.proofs.Machine.{read}
use Rattle.steps.proofs.scale.Goals as goal

module _ (v : ℤ) (a d : ℕ) where
  no_scale : is_scale a d ≡ false → Err 12 ≡ scaled v a d
  unfolding scaled scale_refusal
  no_scale s = simp s

  no_position : is_scale a d ≡ true → is_position v ≡ false → Err 4 ≡ scaled v a d
  unfolding scaled scale_refusal
  no_position s p = simp (s, p)

  taken : is_scale a d ≡ true → is_position v ≡ true → Ok (nanometres v a d) ≡ scaled v a d
  unfolding scaled scale_refusal
  taken s p = simp (s, p)

-- the callees are handed the steps as the machine reads them
answer_is : {v : ℤ} (a d : ℕ) → SFits w32 v → scaled (read w32 v) a d ≡ scaled v a d
answer_is a d f = ap (λ (z : ℤ). scaled z a d) (to_z-of_z f)

pub nanometres_of-requires : goal.nanometres_of-requires
nanometres_of-requires c = (sym c.is_position.ensures ∙ c.if-not-is_position.false, sym c.is_scale.ensures ∙ c.if-not-is_scale.false)

pub returns : goal.returns
returns c =
    ap Ok (to_z-of_z {w = w64} (record { sfits = c.nanometres_of.type_inv }) ∙ c.nanometres_of.ensures)
    ∙ taken _ _ _ (sym c.is_scale.ensures ∙ c.if-not-is_scale.false) (sym c.is_position.ensures ∙ c.if-not-is_position.false)
    ∙ answer_is _ _ c.ranges.steps

pub returns-then-not-is_position : goal.returns-then-not-is_position
returns-then-not-is_position c =
    no_position _ _ _ (sym c.is_scale.ensures ∙ c.if-not-is_scale.false) (sym c.is_position.ensures ∙ c.if-not-is_position.true)
    ∙ answer_is _ _ c.ranges.steps

pub returns-then-not-is_scale : goal.returns-then-not-is_scale
returns-then-not-is_scale c = no_scale _ _ _ (sym c.is_scale.ensures ∙ c.if-not-is_scale.true)
