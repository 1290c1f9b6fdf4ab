-- Arm by arm.
use mathlib.Core.Path.{◌≡◌, refl, ap, ap₂, sym, ◌∙◌}
use mathlib.Core.Bool.{not}
use Prim.Native.Nat.{ℕ, zero, suc}
use native.Mathlib.Omega.{arith}
use lib.Dec.{eqb}
use borrow.Author.Tests.{ne_eqb}
use Rattle.terms.specs.declared.Family.TheVariants.{TwoRounds}
use Rattle.terms.specs.Sizes.{ends_with}
use Rattle.head_calls.proofs.closing.is_last_round.Goals as goal

last_of_two : (r : ℕ) → not (eqb r 0) ≡ ends_with TwoRounds r
last_of_two zero = refl
last_of_two (suc r) = ap not (ne_eqb (suc r) 0 (λ e. omega arith))

pub returns-in-TwoRounds : goal.returns-in-TwoRounds
returns-in-TwoRounds c = last_of_two c.args.seat.round ∙ ap₂ ends_with (sym c.in-TwoRounds.is) refl

pub returns-in-OneRound : goal.returns-in-OneRound
returns-in-OneRound c = ap₂ ends_with (sym c.in-OneRound.is) refl
