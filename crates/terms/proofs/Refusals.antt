-- What a number decides: a refusal's is answered alone, and leaves memory as it was. And what is given of an answer that was taken apart: number and memory.
use mathlib.Core.Path.{◌≡◌, refl, sym, ◌∙◌}
use mathlib.Core.Logic.{◌≢◌}
use Prim.Native.Nat.{ℕ, zero, suc}
use native.Mathlib.Omega.{arith}
use Rattle.terms.specs.Refusals.{unless_refused, leaves}

pub refuses : {A : Type 0} (refused : ℕ → A) (c : ℕ) (x : A) → c ≢ 0 → refused c ≡ unless_refused refused c x
refuses refused zero x h = absurd (h refl)
refuses refused (suc c) x h = refl

pub unchanged : {A : Type 0} (c : ℕ) (new old : A) → c ≢ 0 → old ≡ leaves c new old
unchanged zero new old h = absurd (h refl)
unchanged (suc c) new old h = refl

pub changed : {A : Type 0} (c : ℕ) (new old : A) → c ≡ 0 → leaves c new old ≡ new
changed zero new old e = refl
changed (suc c) new old e = absurd (omega arith)

-- an answer is promised to be m and was found to be x: number and memory of x are those of m
pub given_out : {A B : Type 0} (number : A → ℕ) (result : A → B → B) {s m x : A} {c : ℕ} {v old : B}
    → c ≡ number x → v ≡ result x old → s ≡ m → s ≡ x → (c ≡ number m) × (v ≡ result m old)
given_out number result p q e t = rw (sym e ∙ t) (p, q)

-- the same with another fact between
pub given_with : {A B P : Type 0} (number : A → ℕ) (result : A → B → B) {s m x : A} {c : ℕ} {v old : B}
    → P → c ≡ number x → v ≡ result x old → s ≡ m → s ≡ x → (c ≡ number m) × P × (v ≡ result m old)
given_with number result f p q e t = rw (sym e ∙ t) (p, f, q)
