-- `run_piece::plant_size` meets its contract: its tests are those of the definition, in the same order.
use mathlib.Core.Path.{◌≡◌, sym, ◌∙◌}
use mathlib.Core.Bool.{true, false}
use borrow.Author.Tests.{eq-eqb, ne_eqb, le-leb, lt-leb}
use Rattle.run_spec.specs.RunFile.{is_plant_length}
use Rattle.run_piece.proofs.Planting.{size_short}
use Rattle.run_piece.proofs.plant_size.Goals as goal

pub returns-then-len-lt6 : goal.returns-then-len-lt6
returns-then-len-lt6 c = size_short c.args.bytes.now c.if-len-lt6.true

pub returns-then-half_at : goal.returns-then-half_at
returns-then-half_at c = rw (← c.half_at.ensures, ne_eqb _ _ c.if-half_at.true)

pub returns-then-len-size : goal.returns-then-len-size
returns-then-len-size c =
    rw (← c.half_at.ensures, eq-eqb _ _ c.if-half_at.false, ← c.half_at-size.ensures, lt-leb _ _ c.if-len-size.true)

pub returns-then-not-is_plant_length : goal.returns-then-not-is_plant_length
returns-then-not-is_plant_length c =
    let fits : is_plant_length c.half_at-size.result ≡ false = sym c.is_plant_length.ensures ∙ c.if-not-is_plant_length.true in
    rw (← c.half_at.ensures, eq-eqb _ _ c.if-half_at.false, ← c.half_at-size.ensures, le-leb _ _ c.if-len-size.false, fits)

pub returns : goal.returns
returns c =
    let fits : is_plant_length c.half_at-size.result ≡ true = sym c.is_plant_length.ensures ∙ c.if-not-is_plant_length.false in
    rw (← c.half_at.ensures, eq-eqb _ _ c.if-half_at.false, ← c.half_at-size.ensures, le-leb _ _ c.if-len-size.false, fits)
