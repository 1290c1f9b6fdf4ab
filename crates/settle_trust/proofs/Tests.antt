-- Tests that say the same: two tests are equal if each holds if the other does. n - f is reached by confessions and lists together exactly if the
-- lists reach what the confessions leave of it.
use mathlib.Core.Path.{◌≡◌, refl}
use mathlib.Core.Bool.{Bool, true, false}
use Prim.Native.Nat.{ℕ, ◌+◌, ◌-◌}
use native.Mathlib.Omega.{arith}
use lib.Dec.{T, leb, eqb, leb→le, le→leb, eqb→eq}
use borrow.Author.Tests.{eq-eqb}

pub same_test : (s t : Bool) → (T s → T t) → (T t → T s) → s ≡ t
same_test true true p q = refl
same_test true false p q = absurd (p tt)
same_test false true p q = absurd (q tt)
same_test false false p q = refl

-- a sum reaches a if its second part reaches what the first leaves
pub leb_rest : (a c s : ℕ) → leb (a - c) s ≡ leb a (c + s)
leb_rest a c s =
    same_test (leb (a - c) s) (leb a (c + s))
    (λ t. le→leb a (c + s) (omega (arith, leb→le (a - c) s t)))
    (λ t. le→leb (a - c) s (omega (arith, leb→le a (c + s) t)))

-- nothing is left if the first part reaches it
pub none_left : (a c : ℕ) → eqb (a - c) 0 ≡ leb a c
none_left a c =
    same_test (eqb (a - c) 0) (leb a c)
    (λ t. le→leb a c (omega (arith, eqb→eq (a - c) 0 t)))
    (λ t. let e : a - c ≡ 0 = omega (arith, leb→le a c t) in rw (eq-eqb (a - c) 0 e) tt)
