-- A word that is not 0 says that the position is held.
use Rattle.std.specs.Prelude.{Some}
use mathlib.Core.Path.{◌≡◌, refl, ap, ◌∙◌}
use Prim.Native.Nat.{ℕ, zero, suc}
use lib.IntN.{ℤ}
use mir.Syntax.{w32}
use mir.Facts.{to_z-of_z}
use Rattle.terms.specs.Entry.{Entry}
use Rattle.head_c.specs.Blocks.{held_entry}
use Rattle.head_c.proofs.block.entry_in.Goals as goal

held : (b : ℕ) (v : ℤ) → (b ≡ 0 → ⊥) → Some v ≡ held_entry b v
held zero v n = absurd (n refl)
held (suc b) v n = refl

pub returns : goal.returns
returns c =
    let v = to_z-of_z {w = w32} (record { sfits = c.signed.type_inv }) ∙ c.signed.ensures in
    ap Some v ∙ held c.args.held _ c.if-held-eq0.false
