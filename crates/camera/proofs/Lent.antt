-- An answer that was found to be t: number and lent memory are t's.
use Rattle.std.specs.Prelude.{Option, None, Some, Ok, unwrap_or}
use mathlib.Core.Path.{◌≡◌, refl, subst}
use mathlib.Core.List.{List, [], ◌∷◌}
use Prim.Native.Nat.{ℕ}
use lib.IntN.{ℤ}
use mir.Syntax.{w32}
use mir.Val.{SFits}
use mir.Facts.{to_z-of_z}
use Rattle.terms.proofs.Machine.{read}
use Rattle.settle_limits.specs.Ranged.{Ranged}
use Rattle.settle_limits.specs.Call as limits-call
use Rattle.terms.specs.declared.Family.{Family}
use Rattle.settle_reach.specs.Reached.{Reached}
use Rattle.settle_reach.specs.Call as reach-call
use Rattle.camera.specs.Out.{ranged_number, ranged_or, RangeLent, no_step, reached_number, reached_or, PositionLent, step_number, step_or}

pub range_lent : {n f p m : ℕ} {s : List ℕ} {r : ℕ} {a t : Ranged} {old new : List ℤ} → limits-call.LimitsAnswer n f p m s a → a ≡ t → r ≡ ranged_number t → new ≡ ranged_or t old
    → RangeLent n f p m s r old new
range_lent {n} {f} {p} {m} {s} {t} h e k l = record { answer = t; means = subst (limits-call.LimitsAnswer n f p m s) e h; number = k; lent = l }

-- a pair as the machine stores it
pub pair_stored : {low high : ℤ} → SFits w32 low → SFits w32 high → read w32 low ∷ read w32 high ∷ [] ≡ low ∷ high ∷ []
pair_stored f g = rw (to_z-of_z f, to_z-of_z g)

-- the wanted position as the machine hands it on
pub position_lent : {K : Family} {n f p j m : ℕ} {s : List ℕ} {x : ℤ} {r : ℕ} {a : Reached} {old new : ℤ} → SFits w32 x → reach-call.ReachAnswer K n f p j m s (read w32 x) a
    → (r ≡ reached_number a) × (new ≡ reached_or a old) → PositionLent K n f p j m s x r old new
position_lent {K} {n} {f} {p} {j} {m} {s} {a} fits h put =
    record { answer = a; means = subst (λ (y : ℤ). reach-call.ReachAnswer K n f p j m s y a) (to_z-of_z fits) h; number = put.0; lent = put.1 }

-- what is found, or -2^31 where it is none
pub found_number : (o : Option ℤ) → 0 ≡ reached_number (Ok o)
found_number None = refl
found_number (Some u) = refl

pub found_or : (o : Option ℤ) (old : ℤ) → unwrap_or o no_step ≡ reached_or (Ok o) old
found_or None old = refl
found_or (Some u) old = refl

pub step_told : (o : Option ℤ) → 0 ≡ step_number (Ok o)
step_told None = refl
step_told (Some v) = refl

pub step_lent : (o : Option ℤ) (old : ℤ) → unwrap_or o no_step ≡ step_or (Ok o) old
step_lent None old = refl
step_lent (Some v) old = refl
