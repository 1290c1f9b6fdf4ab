-- `terms::is_position` meets its contract: its two tests are those of the definition.
use mathlib.Core.Path.{sym, ◌∙◌, ap}
use mathlib.Core.Bool.{Bool, ◌&&◌}
use lib.IntN.{pos}
use lib.Signed.{le_z}
use mir.Syntax.{w32}
use mir.Facts.{to_z-of_z}
use Rattle.terms.specs.Positions.{is_position}
use Rattle.terms.proofs.Machine.{read}
use Rattle.terms.proofs.is_position.Goals as goal

pub returns-then-v-geminus1000000 : goal.returns-then-v-geminus1000000
unfolding is_position
returns-then-v-geminus1000000 c =
    ap (λ (t : Bool). t && le_z (read w32 c.args.v) (pos 1000000)) (sym c.if-v-geminus1000000.true) ∙ ap is_position (to_z-of_z c.ranges.v)

pub returns-else-v-geminus1000000 : goal.returns-else-v-geminus1000000
unfolding is_position
returns-else-v-geminus1000000 c =
    c.if-v-geminus1000000.false ∙ ap (λ (t : Bool). t && le_z (read w32 c.args.v) (pos 1000000)) (sym c.if-v-geminus1000000.false) ∙ ap is_position (to_z-of_z c.ranges.v)
