-- A word that is not 0 says that a range is held.
use Rattle.std.specs.Prelude.{Some}
use mathlib.Core.Path.{◌≡◌, refl, ◌∙◌}
use Prim.Native.Nat.{ℕ, zero, suc}
use lib.IntN.{ℤ}
use mir.Syntax.{w32}
use mir.Facts.{to_z-of_z}
use Rattle.head_spec.specs.Kept.{LastKept}
use Rattle.head_c.specs.Blocks.{range_in}
use Rattle.head_c.proofs.block.range_in.Goals as goal

held : (b : ℕ) {low high position low' high' position' : ℤ} (trim : ℕ) → (b ≡ 0 → ⊥) → low ≡ low' → high ≡ high' → position ≡ position'
    → Some (record { low = low; high = high; trim = trim; position = position }) ≡ range_in b low' high' trim position'
held zero trim n p q r = absurd (n refl)
held (suc b) trim n p q r = rw (p, q, r)

pub returns : goal.returns
returns c =
    held c.args.ranged _ c.if-ranged-eq0.false (to_z-of_z {w = w32} (record { sfits = c.signed.type_inv }) ∙ c.signed.ensures)
    (to_z-of_z {w = w32} (record { sfits = c.signed-2.type_inv }) ∙ c.signed-2.ensures)
    (to_z-of_z {w = w32} (record { sfits = c.signed-3.type_inv }) ∙ c.signed-3.ensures)
