-- The bound on halving is the right one. Of the accepted sizes with up to 32 heads, seven have 3n below 11f + 3, and at each of these there is a run
-- in which the spread is 2 at the start and still 2 after the first phase; the runs are played here, by computation. So among all sizes taken, halving
-- is promised exactly if every run keeps it (`halves_exactly`).
use Rattle.std.specs.Prelude.{None, Some}
use mathlib.Core.Path.{◌≡◌, refl}
use mathlib.Core.List.{[], ◌∷◌}
use mathlib.Core.Logic.{◌↔◌, by_cases}
use mathlib.Core.Bool.{Bool, cond, ◌&&◌, ◌||◌}
use Prim.Native.Nat.{ℕ, ◌+◌, ◌-◌, ◌*◌, ◌≤◌}
use native.Mathlib.Omega.{arith}
use native.Mathlib.Decide.{dec_le}
use native.Mathlib.Nat.{le_refl}
use lib.Dec.{eqb, leb, ltb, lit≤}
use lib.ListN.{get_or}
use lib.IntN.{ℤ, pos}
use Rattle.terms.specs.Positions.{gap, half, floor_div, eq_z, rounding}
use Rattle.terms.specs.Entry.{Entry}
use Rattle.terms.specs.declared.Family.TheVariants.{TwoRounds}
use Rattle.terms.specs.Counting.{sum, AtMost}
use Rattle.convergence.specs.Settling.{nulls, trim, insert, ordered, low_kept, high_kept, middle, midpoint, enough, settled}
use Rattle.convergence.specs.Trust.{nothing, confessed, gave, support, confessions, seen, trusted}
use Rattle.convergence.specs.Phases.{End, start_end, Faults, list_of, given_to, entries_at, after, end_after, lowest, highest, spread}
use Rattle.convergence.specs.Demand3.{halved, AcceptedSize, Halves, FewStruck}
use Rattle.convergence.proofs.Demand3.{converges}

-- document 01, "Points on the ring": halving promised, and not
pub halving_points : Halves TwoRounds 5 1 × Halves TwoRounds 9 2 × Halves TwoRounds 12 3 × Halves TwoRounds 23 6 × (Halves TwoRounds 8 2 → ⊥) × (Halves TwoRounds 22 6 → ⊥)
halving_points = omega arith

-- A head struck in confession confesses to some receivers, and to the others it sends the receiver's own list.
echo : End → Faults → (ℕ → ℕ → Bool) → Faults
echo e F confesses =
    record {
      struck_in_collection = F.struck_in_collection;
      sent = F.sent;
      struck_in_confession = F.struck_in_confession;
      replied = λ k i. cond (confesses k i) confessed (gave (list_of e F i));
    }

-- ---- document 01, "Wrong though they look natural", at (8,2)

known : ℕ → Entry
known u = Some (pos u)

-- heads 0 and 1 are healed in collection
pub healed : End
healed = record { struck = λ j. ltb j 2; at = λ j. get_or (None ∷ None ∷ known 2 ∷ known 2 ∷ known 2 ∷ known 0 ∷ known 0 ∷ known 2 ∷ []) j None }

-- 2 and 3 are struck in it, 4 and 5 in confession; 4 confesses to 6 only, and 5 to 7 only
pub apiece : Faults
apiece =
    echo healed
    (record { struck_in_collection = λ j. leb 2 j && ltb j 4; sent = λ k i. None; struck_in_confession = λ j. leb 4 j && ltb j 6; replied = λ k i. nothing })
    (λ k i. eqb (k + 2) i)

pub record EightTwo : Type 0 where
  pub accepted : AcceptedSize TwoRounds 8 2
  pub few : AtMost 2 8 healed.struck × AtMost 2 8 apiece.struck_in_collection × AtMost 2 8 apiece.struck_in_confession
  pub at_six : ordered 8 (trusted 8 2 (given_to healed apiece 6)) ≡ pos 0 ∷ pos 0 ∷ pos 2 ∷ []
  pub at_seven : ordered 8 (trusted 8 2 (given_to healed apiece 7)) ≡ pos 0 ∷ pos 2 ∷ pos 2 ∷ []
  pub spread_before : spread 8 healed ≡ 2
  pub spread_after : spread 8 (after TwoRounds 0 8 2 healed apiece) ≡ 2

pub eight_two : EightTwo
unfolding known healed apiece echo sum spread lowest highest gap after entries_at settled enough midpoint middle half floor_div low_kept high_kept trim nulls ordered insert trusted support confessions seen eq_z given_to list_of
eight_two = record { accepted = lit≤ tt; few = (lit≤ tt, lit≤ tt, lit≤ tt); at_six = refl; at_seven = refl; spread_before = refl; spread_after = refl }

-- ---- seven runs

-- Receivers below s are shown 0, the others 2. Heads 0 .. f - 1 are struck in collection and tell each receiver what it is shown; the first x of them
-- are struck in confession as well, and so are heads f .. 2f - x - 1.
module _ (f x a s : ℕ) where
  shown : ℕ → ℤ
  shown i = pos (cond (ltb i s) 0 2)

  -- the first a of those struck in confession only
  twos : ℕ → Bool
  twos j = leb f j && ltb j (f + a)

  -- these hold 2, and every other head what it is shown; s is above 2f - x, so the others struck in confession hold 0
  holding : ℕ → ℤ
  holding j = cond (twos j) (pos 2) (shown j)

  telling : Faults
  telling =
      record {
        struck_in_collection = λ j. ltb j f;
        sent = λ k i. Some (shown i);
        struck_in_confession = λ j. ltb j x || leb f j && ltb j (2 * f - x);
        replied = λ k i. nothing;
      }

  -- Of those struck in confession only, the ones with 2 confess to the receivers below s, which then lack them, and the ones with 0 to the others. So the
  -- first see more zeros, the others more twos.
  lying : ℕ → Faults
  lying n = echo (start_end n holding) telling (λ k i. cond (ltb i s) (twos k) (leb (f + a) k))

  -- with n heads the size is accepted and below the bound, at most f heads are struck in each round, and the spread stays 2
  abbrev Stays : ℕ → Type 0
  Stays n =
      AcceptedSize TwoRounds n f × (Halves TwoRounds n f → ⊥) × AtMost f n (lying n).struck_in_collection × AtMost f n (lying n).struck_in_confession × (spread n (start_end n holding) ≡ 2)
      × (spread n (after TwoRounds 0 n f (start_end n holding) (lying n)) ≡ 2)

stay : Stays 2 0 1 6 8 × Stays 4 0 1 11 15 × Stays 5 1 2 14 19 × Stays 6 0 1 16 22 × Stays 7 1 2 19 26 × Stays 8 0 1 21 29 × Stays 8 2 3 22 30
unfolding shown twos holding telling echo lying sum spread lowest highest gap start_end after entries_at settled enough midpoint middle half floor_div low_kept high_kept trim nulls ordered insert trusted support confessions seen eq_z given_to list_of
stay = (
  (lit≤ tt, λ h. omega arith, lit≤ tt, lit≤ tt, refl, refl),
  (lit≤ tt, λ h. omega arith, lit≤ tt, lit≤ tt, refl, refl),
  (lit≤ tt, λ h. omega arith, lit≤ tt, lit≤ tt, refl, refl),
  (lit≤ tt, λ h. omega arith, lit≤ tt, lit≤ tt, refl, refl),
  (lit≤ tt, λ h. omega arith, lit≤ tt, lit≤ tt, refl, refl),
  (lit≤ tt, λ h. omega arith, lit≤ tt, lit≤ tt, refl, refl),
  (lit≤ tt, λ h. omega arith, lit≤ tt, lit≤ tt, refl, refl),
)

-- a run in which the spread is not halved
pub record NotHalved (n f : ℕ) : Type 0 where
  pub v : ℕ → ℤ
  pub F : ℕ → Faults
  pub within : FewStruck n f F
  pub first : spread n (end_after TwoRounds n f v F 0) ≡ 2
  pub later : spread n (end_after TwoRounds n f v F 1) ≡ 2

not_halved : (n f m g x a s : ℕ) → n ≡ m → f ≡ g → Stays g x a s m → NotHalved n f
unfolding end_after rounding
not_halved n f m g x a s p q h =
    rw (p, q) (record { v = holding g x a s; F = λ p. lying g x a s m; within = λ p. (h.2, h.3); first = h.4; later = h.5 })

pub tight : (n f : ℕ) → n ≤ 32 → AcceptedSize TwoRounds n f → (Halves TwoRounds n f → ⊥) → NotHalved n f
tight n f most size below =
    by_cases (dec_le f 2) (λ h. not_halved n f 8 2 0 1 6 (omega arith) (omega arith) stay.0)
    (λ k2. by_cases (dec_le f 3) (λ h. let l : 12 ≤ n = omega arith in absurd (omega arith))
    (λ k3. by_cases (dec_le f 4) (λ h. not_halved n f 15 4 0 1 11 (omega arith) (omega arith) stay.1)
    (λ k4. by_cases (dec_le f 5) (λ h. not_halved n f 19 5 1 2 14 (omega arith) (omega arith) stay.2)
    (λ k5. by_cases (dec_le f 6) (λ h. not_halved n f 22 6 0 1 16 (omega arith) (omega arith) stay.3)
    (λ k6. by_cases (dec_le f 7) (λ h. not_halved n f 26 7 1 2 19 (omega arith) (omega arith) stay.4)
    (λ k7. by_cases (dec_le n 29) (λ h. not_halved n f 29 8 0 1 21 (omega arith) (omega arith) stay.5)
    (λ k8. not_halved n f 30 8 2 3 22 (omega arith) (omega arith) stay.6)))))))

-- every run of this size halves the spread
abbrev pub AllHalve : ℕ → ℕ → Type 0
AllHalve n f = (v : ℕ → ℤ) (F : ℕ → Faults) → FewStruck n f F → (p k : ℕ) → spread n (end_after TwoRounds n f v F (p + k)) ≤ halved k (spread n (end_after TwoRounds n f v F p))

pub halves_exactly : (n f : ℕ) → n ≤ 32 → AcceptedSize TwoRounds n f → AllHalve n f ↔ Halves TwoRounds n f
unfolding halved
halves_exactly n f most size = (λ all. go all (dec_le (11 * f + 3) (3 * n)), λ h v F within p k. (converges TwoRounds n f n (le_refl n) size v F within p k).halving h)
  where
    go : AllHalve n f → Dec (Halves TwoRounds n f) → Halves TwoRounds n f
    go all (yes h) = h
    go all (no h) = let T = tight n f most size h in absurd (omega (arith, rw (T.later, T.first) at (all T.v T.F T.within 0 1)))
