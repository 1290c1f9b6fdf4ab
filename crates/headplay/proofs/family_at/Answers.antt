-- Byte 23 decides.
use mathlib.Core.Path.{◌≡◌, refl, ap, sym, ◌∙◌}
use mathlib.Core.Logic.{◌≢◌}
use Prim.Native.Nat.{ℕ, zero, suc}
use Rattle.terms.specs.declared.Family.TheVariants.{OneRound}
use Rattle.head_spec.specs.Seats.{family_in}
use Rattle.headplay.proofs.family_at.Goals as goal

one_round : (b : ℕ) → b ≢ 0 → OneRound ≡ family_in b
one_round zero d = absurd (d refl)
one_round (suc b) d = refl

pub returns-then-byte_at-eq0 : goal.returns-then-byte_at-eq0
returns-then-byte_at-eq0 c = ap family_in (sym c.if-byte_at-eq0.true ∙ c.byte_at.ensures)

pub returns : goal.returns
returns c = one_round _ c.if-byte_at-eq0.false ∙ ap family_in c.byte_at.ensures
