-- A word that is not 0 says that an offer stands.
use Rattle.std.specs.Prelude.{Some}
use mathlib.Core.Path.{◌≡◌, refl, sym, ◌∙◌}
use Prim.Native.Nat.{ℕ, zero, suc}
use lib.IntN.{ℤ}
use mir.Syntax.{w32}
use mir.Facts.{to_z-of_z}
use Rattle.head_spec.specs.Kept.{Offer}
use Rattle.head_c.specs.Blocks.{offer_in, offer_of}
use Rattle.head_c.proofs.Offers.{no_offer}
use Rattle.head_c.proofs.block.offer_in.Goals as goal

stands : (b : ℕ) {low high position low' high' position' : ℤ} (trim : ℕ) → (b ≡ 0 → ⊥) → low ≡ low' → high ≡ high' → position ≡ position'
    → Some (record { low = low; high = high; trim = trim; position = position }) ≡ offer_in b low' high' trim position'
stands zero trim n p q r = absurd (n refl)
stands (suc b) trim n p q r = rw (p, q, r)

pub returns-then-h-eq0 : goal.returns-then-h-eq0
returns-then-h-eq0 c = sym (no_offer _ c.if-h-eq0.true)

pub returns : goal.returns
unfolding offer_of
returns c =
    stands _ _ c.if-h-eq0.false (to_z-of_z {w = w32} (record { sfits = c.signed.type_inv }) ∙ c.signed.ensures)
    (to_z-of_z {w = w32} (record { sfits = c.signed-2.type_inv }) ∙ c.signed-2.ensures)
    (to_z-of_z {w = w32} (record { sfits = c.signed-3.type_inv }) ∙ c.signed-3.ensures)
