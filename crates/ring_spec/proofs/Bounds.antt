-- The lowest and the highest of a phase end: those of the heads, then of the listeners that are there. What is struck or missing counts for nothing.
use mathlib.Core.Path.{◌≡◌, refl, ◌∙◌}
use mathlib.Core.Bool.{true, and-false}
use Prim.Native.Nat.{ℕ, zero, suc, ◌+◌, ◌≤◌, ◌<◌}
use native.Mathlib.Omega.{arith}
use native.Mathlib.Decide.{dec_le}
use lib.Dec.{leb}
use borrow.Author.Tests.{le-ltb, lt-leb}
use Rattle.marks.specs.Marks.{bit_of}
use Rattle.convergence.specs.Phases.{End, lowest, highest}
use Rattle.convergence.proofs.Same.{SameEnd, same_bounds}
use Rattle.ring_spec.specs.Rounds.{PhaseEnd, receivers, is_out, as_end}
use Rattle.ring_spec.proofs.Receivers.{head_out}

-- two ends have the same lowest and highest, one of a receivers and one of b
abbrev pub SameBounds : ℕ → End → ℕ → End → Type 0
SameBounds a e b d = (lowest a e ≡ lowest b d) × (highest a e ≡ highest b d)

-- from a to b all are struck
bounds_rest : (a b : ℕ) (e : End) → a ≤ b → ((j : ℕ) → a ≤ j → j < b → e.struck j ≡ true) → SameBounds b e a e
unfolding lowest highest
bounds_rest a zero e l h = let z : a ≡ 0 = omega arith in rw z (refl, refl)
bounds_rest a (suc b) e l h = go (dec_le a b) (λ k. bounds_rest a b e k (λ j p q. h j p (omega arith)))
  where
    go : Dec (a ≤ b) → (a ≤ b → SameBounds b e a e) → SameBounds (suc b) e a e
    go (yes k) rest = rw (h b k (omega arith)) (rest k)
    go (no k) rest = let z : a ≡ suc b = omega arith in rw z (refl, refl)

-- ---- of n heads and m listeners

module _ (n m : ℕ) (most : n ≤ 32) (e : PhaseEnd) where
  -- no number from n to 31 is a receiver's, and none from 32 + m on
  between_out : (j : ℕ) → n ≤ j → j < 32 → is_out n m e.struck j ≡ true
  between_out j p q = rw (le-ltb j n p, lt-leb 32 j q)

  after_out : (j : ℕ) → 32 + m ≤ j → j < receivers → is_out n m e.struck j ≡ true
  after_out j p q = rw (le-ltb j n (omega arith), le-ltb j (32 + m) p, and-false (leb 32 j))

  -- the heads of an end
  abbrev pub heads_of : End
  heads_of = record { struck = bit_of e.struck; at = λ i. (e.heads i).seat.position }

  pub heads_bounds : SameBounds 32 (as_end n m e) n heads_of
  heads_bounds =
      let (low, high) = bounds_rest n 32 (as_end n m e) most between_out in
      let (low', high') = same_bounds same in
      (low ∙ low', high ∙ high')
    where
      same : SameEnd n (as_end n m e) heads_of
      same = record { struck = head_out n m e.struck; at = λ i l q. refl }

  pub all_bounds : m ≤ 16 → SameBounds receivers (as_end n m e) (32 + m) (as_end n m e)
  all_bounds few = bounds_rest (32 + m) receivers (as_end n m e) (omega arith) after_out

-- without listeners, those of the heads alone
pub no_listeners : (n : ℕ) (most : n ≤ 32) (e : PhaseEnd) → SameBounds receivers (as_end n 0 e) n (heads_of n 0 most e)
no_listeners n most e =
    let (low, high) = all_bounds n 0 most e (omega arith) in
    let (low', high') = heads_bounds n 0 most e in
    (low ∙ low', high ∙ high')
