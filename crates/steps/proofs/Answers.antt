-- Document 02, A4, of every answer: there is one at most, a position comes back from its reading as itself, and a step is given only to its reading.
use Rattle.std.specs.Prelude.{Ok, Err, Some}
use mathlib.Core.Path.{◌≡◌, refl, sym, ◌∙◌, ap, subst}
use mathlib.Core.Bool.{Bool, true, false, true≢false}
use Prim.Native.Nat.{ℕ}
use lib.IntN.{ℤ, pos}
use Rattle.terms.specs.Refusals as refusal
use Rattle.terms.specs.Refusals.{check, unless_refused}
use Rattle.terms.specs.Positions.{is_position}
use Rattle.steps.specs.Scale.{is_scale, nanometres, scale_refusal, scaled}
use Rattle.steps.specs.Answers.{Scaled}
use Rattle.steps.specs.Unscale.{ReadsAs, OneUnscaleAnswer, ThroughAndBack, GivenItsReading}
use Rattle.steps.specs.Unscale.UnscaleAnswer.{refused, step, none}
use Rattle.steps.proofs.OneStep.{only_rounded_up}

pub one_answer : OneUnscaleAnswer
one_answer x a d _ _ (refused f) (refused g) = refl
one_answer x a d _ _ (refused f) (step s w q) = absurd (true≢false (sym s ∙ f))
one_answer x a d _ _ (refused f) (none s n) = absurd (true≢false (sym s ∙ f))
one_answer x a d _ _ (step s v r) (refused f) = absurd (true≢false (sym s ∙ f))
one_answer x a d _ _ (step s v r) (step t w q) = ap (λ (w : ℤ). Ok (Some w)) (only_rounded_up a d s x v r.1 ∙ sym (only_rounded_up a d s x w q.1))
one_answer x a d _ _ (step s v r) (none t n) = absurd (n v r)
one_answer x a d _ _ (none s n) (refused f) = absurd (true≢false (sym s ∙ f))
one_answer x a d _ _ (none s n) (step t w q) = absurd (n w q)
one_answer x a d _ _ (none s n) (none t m) = refl

-- ---- through the scale

abbrev Refusal : Scaled → Type 0
Refusal (Err c) = Unit {0}
Refusal (Ok x) = ⊥

abbrev reading_of : Scaled → ℤ
reading_of (Err c) = pos 0
reading_of (Ok x) = x

-- what has nanometres is taken, and they are its reading
taken : (v x : ℤ) (a d : ℕ) → scaled v a d ≡ Ok x → (is_scale a d ≡ true) × ReadsAs a d x v
unfolding scaled scale_refusal
taken v x a d e = go (is_scale a d) (is_position v) e
  where
    go : (s p : Bool) → unless_refused Err (check s refusal.bad_scale (check p refusal.position_out_of_range 0)) (Ok (nanometres v a d)) ≡ Ok x
        → (s ≡ true) × ((p ≡ true) × (nanometres v a d ≡ x))
    go true true h = (refl, (refl, ap reading_of h))
    go true false h = absurd (subst Refusal h tt)
    go false p h = absurd (subst Refusal h tt)

pub through_and_back : ThroughAndBack
through_and_back v x a d s e h =
    let t = taken v x a d e in
    one_answer x a d s (Ok (Some v)) h (step t.0 v t.1)

pub given_its_reading : GivenItsReading
unfolding scaled scale_refusal
given_its_reading v x a d (step s _ r) = simp (s, r.0, r.1)
