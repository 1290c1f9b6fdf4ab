-- The numbers of listeners: none is a head's, and all are small. And the checks of the size, before those that follow.
use mathlib.Core.Path.{◌≡◌, refl}
use mathlib.Core.Logic.{◌≢◌}
use mathlib.Core.Bool.{Bool, true, false, cond}
use Prim.Native.Nat.{ℕ, ◌+◌, ◌*◌, ◌≤◌, ◌<◌}
use native.Mathlib.Omega.{arith}
use lib.Dec.{leb, eqb}
use borrow.Author.Tests.{leb-true, lt-leb}
use Rattle.terms.specs.Refusals.{check}
use Rattle.terms.specs.Sizes.{is_count, is_limit, is_listener, limit_number, check_size, size_refusal}
use Rattle.terms.specs.declared.Family.{Family}
use Rattle.terms.specs.declared.Family.TheVariants.{TwoRounds, OneRound}
use Rattle.terms.proofs.Booleans.{and_both}
use Rattle.terms.proofs.Checks.{followed}

pub member_not_listener : (i n : ℕ) → i < n → n ≤ 32 → is_listener i ≡ false
unfolding is_listener
member_not_listener i n l most = rw (lt-leb 32 i (omega arith))

pub listener_small : (i : ℕ) → is_listener i ≡ true → i ≤ 47
unfolding is_listener
listener_small i e = leb-true i 47 (and_both (leb 32 i) (leb i 47) e).1

-- ---- a refusal of the size stands whatever is checked after it; if the size is taken, the checks that follow decide

limit_some : (K : Family) → limit_number K ≢ 0
limit_some TwoRounds e = omega arith
limit_some OneRound e = omega arith

module _ (K : Family) (n f rest : ℕ) where
  pub size_refused : size_refusal K n f ≢ 0 → size_refusal K n f ≡ check_size K n f rest
  size_refused = go (is_count n) (is_limit K n f)
    where
      go : (a b : Bool) → check a 1 (check b (limit_number K) 0) ≢ 0 → check a 1 (check b (limit_number K) 0) ≡ check a 1 (check b (limit_number K) rest)
      go true true d = absurd (d refl)
      go true false d = refl
      go false b d = refl

  -- both checks pass
  pub size_passed : check_size K n f rest ≡ 0 → (is_count n ≡ true) × (is_limit K n f ≡ true) × (rest ≡ 0)
  size_passed = go (is_count n) (is_limit K n f)
    where
      go : (a b : Bool) → check a 1 (check b (limit_number K) rest) ≡ 0 → (a ≡ true) × (b ≡ true) × (rest ≡ 0)
      go true true e = (refl, refl, e)
      go true false e = absurd (limit_some K e)
      go false b e = absurd (omega arith)

pub size_taken : (K : Family) (n f rest : ℕ) → size_refusal K n f ≡ 0 → check_size K n f rest ≡ rest
size_taken K n f rest e = let (count, limit, none) = size_passed K n f 0 e in rw (count, limit)

-- more: the row `rest` with `last` at its end in place of 0 (`followed`); the checks of the size before both
pub size_followed : (K : Family) (n f rest more last : ℕ) → more ≡ cond (eqb rest 0) last rest
    → check_size K n f more ≡ cond (eqb (check_size K n f rest) 0) last (check_size K n f rest)
size_followed TwoRounds n f rest more last e = followed (is_count n) 0 _ _ last (followed (is_limit TwoRounds n f) 1 rest more last e)
size_followed OneRound n f rest more last e = followed (is_count n) 0 _ _ last (followed (is_limit OneRound n f) 17 rest more last e)

-- a size that is taken is small
limit_small : (K : Family) (n f : ℕ) → n ≤ 32 → is_limit K n f ≡ true → f ≤ 32
unfolding is_limit
limit_small TwoRounds n f h e = omega (arith, leb-true (7 * f + 2) (2 * n) e)
limit_small OneRound n f h e = omega (arith, leb-true (4 * f + 1) n e)

pub size_small : (K : Family) (n f rest : ℕ) → check_size K n f rest ≡ 0 → (n ≤ 32) × (f ≤ 32)
unfolding is_count
size_small K n f rest e =
    let (count, limit, more) = size_passed K n f rest e in
    let heads = leb-true n 32 (and_both (leb 1 n) (leb n 32) count).1 in
    (heads, limit_small K n f heads limit)
