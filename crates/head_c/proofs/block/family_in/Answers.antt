-- A word that is not 0 says that a phase has one round.
use mathlib.Core.Path.{◌≡◌, refl}
use Prim.Native.Nat.{ℕ, zero, suc}
use Rattle.terms.specs.declared.Family.TheVariants.{OneRound}
use Rattle.head_spec.specs.Seats.{family_in}
use Rattle.head_c.proofs.block.family_in.Goals as goal

one : (b : ℕ) → (b ≡ 0 → ⊥) → OneRound ≡ family_in b
one zero n = absurd (n refl)
one (suc b) n = refl

pub returns : goal.returns
returns c = one c.args.word c.if-word-eq0.false
