-- Two bits, of which one decides; and three bits put together.
use mathlib.Core.Path.{◌≡◌, refl}
use mathlib.Core.Bool.{Bool, true, false, not, ◌&&◌}
use Prim.Native.Nat.{◌+◌, ◌*◌}
use Rattle.terms.specs.Counting.{bit}

-- a bit, and another that takes it back
pub cleared : (e : Bool) {x : Bool} → x ≡ true → false ≡ (e && not x)
cleared true p = rw p
cleared false p = refl

pub kept : {r : Bool} (e : Bool) {x : Bool} → r ≡ e → x ≡ false → r ≡ (e && not x)
kept true q p = rw p q
kept false q p = q

-- a bit of the events and of the mask
pub both : {e m r : Bool} → e ≡ true → r ≡ m → r ≡ (e && m)
both p q = rw p q

pub first_not : {e : Bool} (m : Bool) → e ≡ false → false ≡ (e && m)
first_not m p = rw p

pub same_three : {a b x y : Bool} (c : Bool) → a ≡ x → b ≡ y → bit a + 2 * bit b + 4 * bit c ≡ bit x + 2 * bit y + 4 * bit c
same_three c p q = rw (p, q)
