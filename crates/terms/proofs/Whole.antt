-- Whole numbers with a sign, so that `omega` reads them: a number is what it is above zero less what it is below, and the order, a sum and a
-- half are linear in those two.
use mathlib.Core.Path.{◌≡◌, refl, ap}
use mathlib.Core.Bool.{Bool, true, false, not, cond}
use Prim.Native.Nat.{ℕ, zero, suc, ◌+◌, ◌-◌, ◌*◌, ◌/◌, ◌≤◌, ◌<◌}
use native.Mathlib.Omega.{arith}
use lib.Dec.{T, ltb, leb→le, le→leb, ltb→lt, lt→ltb, nleb→lt, nltb→le, eqb→eq, eqb_refl}
use lib.IntN.{ℤ, pos, negsuc, ◌+ℤ◌, ◌-ℤ◌, sub_ℕ, neg_ℤ, nat_abs}
use lib.Signed.{le_z, ◌≤ℤ◌, ◌<ℤ◌}
use denote.Floats.{passes, is_true}
use Rattle.terms.specs.Positions.{is_position, Within, floor_div, half, gap, eq_z}
use Rattle.terms.proofs.Booleans.{and_both}

unfoldable pub plus : ℤ → ℕ
plus (pos n) = n
plus (negsuc n) = 0

unfoldable pub minus : ℤ → ℕ
minus (pos n) = 0
minus (negsuc n) = suc n

-- ---- the order

pub le_lin : {a b : ℤ} → a ≤ℤ b → plus a + minus b ≤ plus b + minus a
unfolding plus minus
le_lin {a = pos a} {b = pos b} h = omega (arith, leb→le a b h.le)
le_lin {a = pos a} {b = negsuc b} h = absurd h.le
le_lin {a = negsuc a} {b = pos b} h = omega arith
le_lin {a = negsuc a} {b = negsuc b} h = omega (arith, leb→le b a h.le)

pub lt_lin : {a b : ℤ} → a <ℤ b → plus a + minus b < plus b + minus a
unfolding plus minus
lt_lin {a = pos a} {b = pos b} h = omega (arith, ltb→lt a b h.lt)
lt_lin {a = pos a} {b = negsuc b} h = absurd h.lt
lt_lin {a = negsuc a} {b = pos b} h = omega arith
lt_lin {a = negsuc a} {b = negsuc b} h = omega (arith, ltb→lt b a h.lt)

pub eq_lin : {a b : ℤ} → a ≡ b → plus a + minus b ≡ plus b + minus a
eq_lin {a} {b} h = rw h refl

pub lin_le : {a b : ℤ} → plus a + minus b ≤ plus b + minus a → a ≤ℤ b
unfolding plus minus
lin_le {a = pos a} {b = pos b} h = record { le = le→leb a b (omega arith) }
lin_le {a = pos a} {b = negsuc b} h = absurd (omega arith)
lin_le {a = negsuc a} {b = pos b} h = record { le = tt }
lin_le {a = negsuc a} {b = negsuc b} h = record { le = le→leb b a (omega arith) }

pub lin_lt : {a b : ℤ} → plus a + minus b < plus b + minus a → a <ℤ b
unfolding plus minus
lin_lt {a = pos a} {b = pos b} h = record { lt = lt→ltb a b (omega arith) }
lin_lt {a = pos a} {b = negsuc b} h = absurd (omega arith)
lin_lt {a = negsuc a} {b = pos b} h = record { lt = tt }
lin_lt {a = negsuc a} {b = negsuc b} h = record { lt = lt→ltb b a (omega arith) }

pub lin_eq : {a b : ℤ} → plus a + minus b ≡ plus b + minus a → a ≡ b
unfolding plus minus
lin_eq {a = pos a} {b = pos b} h = ap pos (omega arith)
lin_eq {a = pos a} {b = negsuc b} h = absurd (omega arith)
lin_eq {a = negsuc a} {b = pos b} h = absurd (omega arith)
lin_eq {a = negsuc a} {b = negsuc b} h = ap negsuc (omega arith)

pub not_le : {a b : ℤ} → (a ≤ℤ b → ⊥) → b <ℤ a
not_le {a} {b} h = lin_lt (lt_of_not (λ k. h (lin_le k)))
  where
    lt_of_not : (plus a + minus b ≤ plus b + minus a → ⊥) → plus b + minus a < plus a + minus b
    lt_of_not k = omega arith

-- with this list `omega` reads and proves orders of whole numbers
pub ruleset arithZ = (arith, le_lin, lt_lin, eq_lin, lin_le, lin_lt, lin_eq)

-- ---- sums

sub_lin : (a b : ℕ) → plus (sub_ℕ a b) + b ≡ a + minus (sub_ℕ a b)
unfolding plus minus
sub_lin a b = go (ltb a b) (ltb→lt a b) (nltb→le a b)
  where
    go : (t : Bool) → (T t → a < b) → (T (not t) → b ≤ a) → plus (cond t (negsuc (b - suc a)) (pos (a - b))) + b ≡ a + minus (cond t (negsuc (b - suc a)) (pos (a - b)))
    go true p q = omega (arith, p tt)
    go false p q = omega (arith, q tt)

pub sum_lin : (a b : ℤ) → plus (a +ℤ b) + minus a + minus b ≡ plus a + plus b + minus (a +ℤ b)
unfolding plus minus
sum_lin (pos a) (pos b) = omega arith
sum_lin (pos a) (negsuc b) = omega (arith, sub_lin a (suc b))
sum_lin (negsuc a) (pos b) = omega (arith, sub_lin b (suc a))
sum_lin (negsuc a) (negsuc b) = omega arith

-- a natural number, as a whole one
pub pos_lin : (n : ℕ) → (plus (pos n) ≡ n) × (minus (pos n) ≡ 0)
unfolding plus minus
pos_lin n = (refl, refl)

-- ---- halves

floor_lin : (x : ℤ) → (2 * plus (floor_div x 2) + minus x ≤ plus x + 2 * minus (floor_div x 2)) × (plus x + 2 * minus (floor_div x 2) ≤ 2 * plus (floor_div x 2) + minus x + 1)
unfolding plus minus floor_div
floor_lin (pos a) = omega arith
floor_lin (negsuc a) = omega arith

pub half_lin : (r : ℕ) (x : ℤ) → (2 * plus (half r x) + minus x ≤ plus x + r + 2 * minus (half r x)) × (plus x + r + 2 * minus (half r x) ≤ 2 * plus (half r x) + minus x + 1)
unfolding half
half_lin r x = omega (arith, floor_lin (x +ℤ pos r), sum_lin x (pos r), pos_lin r)

-- ---- differences, and how far b lies above a

neg_lin : (a : ℤ) → (plus (neg_ℤ a) ≡ minus a) × (minus (neg_ℤ a) ≡ plus a)
unfolding plus minus
neg_lin (pos zero) = (refl, refl)
neg_lin (pos (suc a)) = (refl, refl)
neg_lin (negsuc a) = (refl, refl)

pub less_lin : (a b : ℤ) → plus (a -ℤ b) + minus a + plus b ≡ plus a + minus b + minus (a -ℤ b)
less_lin a b = omega (arith, sum_lin a (neg_ℤ b), neg_lin b)

abs_lin : (a : ℤ) → pos 0 ≤ℤ a → (nat_abs a ≡ plus a) × (minus a ≡ 0)
unfolding plus minus
abs_lin (pos a) h = (refl, refl)
abs_lin (negsuc a) h = absurd h.le

pub gap_lin : (a b : ℤ) → a ≤ℤ b → gap a b + plus a + minus b ≡ plus b + minus a
unfolding gap
gap_lin a b h =
    let z : pos 0 ≤ℤ (b -ℤ a) = omega (arithZ, less_lin b a, pos_lin 0) in
    omega (arithZ, less_lin b a, pos_lin 0, abs_lin (b -ℤ a) z)

pub half_between : (r : ℕ) (m M a b : ℤ) → r ≤ 1 → m ≤ℤ a → a ≤ℤ b → b ≤ℤ M → (m ≤ℤ half r (a +ℤ b)) × (half r (a +ℤ b) ≤ℤ M)
half_between r m M a b hr h k l = omega (arithZ, sum_lin a b, half_lin r (a +ℤ b))

-- half r (a' + b') is at most ⌈ (M - m) / 2 ⌉ above half r (a + b)
pub half_closer : (r : ℕ) (m M a b a' b' : ℤ) → m ≤ℤ a → a ≤ℤ b → b ≤ℤ M → a' ≤ℤ b → b' ≤ℤ M → half r (a' +ℤ b') ≤ℤ (half r (a +ℤ b) +ℤ pos ((gap m M + 1) / 2))
half_closer r m M a b a' b' h k l' l q =
    let w : m ≤ℤ M = omega arithZ in
    omega (arithZ, sum_lin a b, sum_lin a' b', half_lin r (a +ℤ b), half_lin r (a' +ℤ b'), gap_lin m M w, sum_lin (half r (a +ℤ b)) (pos ((gap m M + 1) / 2)), pos_lin ((gap m M + 1) / 2))

-- ---- tests

pub le_z_fail : {a b : ℤ} → T (not (le_z a b)) → b <ℤ a
le_z_fail {a = pos a} {b = pos b} t = record { lt = lt→ltb b a (nleb→lt a b t) }
le_z_fail {a = pos a} {b = negsuc b} t = record { lt = tt }
le_z_fail {a = negsuc a} {b = pos b} t = absurd t
le_z_fail {a = negsuc a} {b = negsuc b} t = record { lt = lt→ltb a b (nleb→lt b a t) }

pub dec_le_z : (a b : ℤ) → Dec (a ≤ℤ b)
dec_le_z a b = go (le_z a b) (λ t. record { le = t }) (le_z_fail {a = a} {b = b})
  where
    go : (x : Bool) → (T x → a ≤ℤ b) → (T (not x) → b <ℤ a) → Dec (a ≤ℤ b)
    go true p q = yes (p tt)
    go false p q = no (λ h. let k = q tt in omega arithZ)

pub eqZ→eq : (a b : ℤ) → T (eq_z a b) → a ≡ b
unfolding eq_z
eqZ→eq (pos a) (pos b) t = ap pos (eqb→eq a b t)
eqZ→eq (pos a) (negsuc b) t = absurd t
eqZ→eq (negsuc a) (pos b) t = absurd t
eqZ→eq (negsuc a) (negsuc b) t = ap negsuc (eqb→eq a b t)

pub eq_z_refl : (a : ℤ) → T (eq_z a a)
unfolding eq_z
eq_z_refl (pos a) = eqb_refl a
eq_z_refl (negsuc a) = eqb_refl a

pub other : (a : ℤ) → (a +ℤ pos 1) ≡ a → ⊥
other a h = omega (arithZ, sum_lin a (pos 1), pos_lin 1)

-- ---- positions are the whole numbers within 1,000,000

pub position_within : (v : ℤ) → is_position v ≡ true → Within 1_000_000 v
unfolding is_position
position_within v p =
    let (low, high) = and_both (le_z (negsuc 999_999) v) (le_z v (pos 1_000_000)) p in
    (record { le = passes _ low }, record { le = passes _ high })

pub within_position : (v : ℤ) → Within 1_000_000 v → is_position v ≡ true
unfolding is_position
within_position v h = rw (is_true (le_z (negsuc 999_999) v) h.0.le, is_true (le_z v (pos 1_000_000)) h.1.le)
