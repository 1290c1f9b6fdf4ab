-- Phase ends, whatever made them. If each end is nearer than the one before (`Nearer`), any two of them are as demand 3 says (`any_two`): a range
-- once kept is kept, and halving k times, each time rounded up, is dividing by 2 to the power k. Lowest and highest are found alike: a sound head
-- holds what is found, and none holds a better position.
use Rattle.std.specs.Prelude.{None, Some}
use mathlib.Core.Path.{◌≡◌, refl}
use mathlib.Core.List.{[], ◌∷◌}
use mathlib.Core.Logic.{◌⊎◌, inl, inr, ⊎_elim}
use mathlib.Core.Bool.{Bool, true, false, not, cond}
use Prim.Native.Nat.{ℕ, zero, suc, ◌+◌, ◌/◌, ◌≤◌, ◌<◌}
use native.Mathlib.Omega.{arith}
use native.Mathlib.Nat.{le_refl, add-zero, add-suc}
use lib.Dec.{T}
use lib.IntN.{ℤ, pos, ◌+ℤ◌}
use lib.Signed.{le_z, ◌≤ℤ◌, ◌<ℤ◌, le_z_yes, ≤ℤ_refl}
use Rattle.terms.specs.Positions.{gap}
use Rattle.terms.specs.Entry.{Entry}
use Rattle.terms.proofs.Whole.{arithZ, le_z_fail, gap_lin, sum_lin, pos_lin}
use Rattle.terms.specs.Counting.{Each, bit, AtMost}
use Rattle.convergence.specs.Phases.{End, lesser, greater, join, sound_at, lowest, highest, spread}
use Rattle.convergence.specs.Demand3.{halved, HeldBetween, Demand3}
use Rattle.terms.proofs.Sums.{each_more, sums_le, sum_one}
use Rattle.convergence.proofs.Support.{not_null, same_position}
use Rattle.convergence.proofs.Halves.{halved_zero, halved_suc}

-- ---- the best of the sound positions, in an order

-- an order, and a pick that gives the better of two positions
record Choice (Better : ℤ → ℤ → Type 0) (pick : ℤ → ℤ → ℤ) : Type 0 where
  same : (a : ℤ) → Better a a
  chain : (a b c : ℤ) → Better a b → Better b c → Better a c
  picks : (a b : ℤ) → (Better a b × (pick a b ≡ a)) ⊎ (Better b a × (pick a b ≡ b))

le_either : (a b : ℤ) → ((a ≤ℤ b) × (le_z a b ≡ true)) ⊎ ((b ≤ℤ a) × (le_z a b ≡ false))
le_either a b = go (le_z a b) (λ t. le_z_yes {a = a} {b = b} t) (le_z_fail {a = a} {b = b})
  where
    go : (t : Bool) → (T t → a ≤ℤ b) → (T (not t) → b <ℤ a) → ((a ≤ℤ b) × (t ≡ true)) ⊎ ((b ≤ℤ a) × (t ≡ false))
    go true p q = inl (p tt, refl)
    go false p q = inr (omega (arithZ, q tt), refl)

lower : Choice ◌≤ℤ◌ lesser
lower =
    record {
      same = ≤ℤ_refl;
      chain = λ a b c h k. omega arithZ;
      picks = λ a b. ⊎_elim (λ k. inl (k.0, rw k.1)) (λ k. inr (k.0, rw k.1)) (le_either a b);
    }

higher : Choice (λ a b. b ≤ℤ a) greater
higher =
    record {
      same = ≤ℤ_refl;
      chain = λ a b c h k. omega arithZ;
      picks = λ a b. ⊎_elim (λ k. inr (k.0, rw k.1)) (λ k. inl (k.0, rw k.1)) (le_either a b);
    }

-- a sound head among 0 .. n - 1 holds m
abbrev Held : ℕ → End → ℤ → Type 0
Held n e m = (i : ℕ) × (i < n) × (sound_at e i ≡ Some m)

-- m is held, and no better one is; null if no position is held
abbrev Best : (ℤ → ℤ → Type 0) → ℕ → End → Entry → Type 0
Best Better n e None = Each n (λ j. sound_at e j ≡ None)
Best Better n e (Some m) = Held n e m × Each n (λ j. (u : ℤ) → sound_at e j ≡ Some u → Better m u)

module _ (Better : ℤ → ℤ → Type 0) (pick : ℤ → ℤ → ℤ) (C : Choice Better pick) (n : ℕ) (e : End) where
  held_before : {m : ℤ} → Held n e m → Held (suc n) e m
  held_before h = (h.0, omega (arith, h.1), h.2)

  -- head n has x, and the best of the heads before it is y
  best_join : (x y : Entry) → sound_at e n ≡ x → Best Better n e y → Best Better (suc n) e (join pick x y)
  best_join None None q h = each_more h q
  best_join None (Some m) q h = (held_before h.0, each_more h.1 (λ u r. absurd (not_null q r)))
  best_join (Some u) None q h =
      ((n, le_refl (suc n), q), each_more (λ j l w r. absurd (not_null (h j l) r)) (λ w r. rw (same_position q r) (C.same u)))
  best_join (Some u) (Some m) q h = go (C.picks u m)
    where
      go : (Better u m × (pick u m ≡ u)) ⊎ (Better m u × (pick u m ≡ m)) → Best Better (suc n) e (Some (pick u m))
      go (inl k) =
          rw k.1
          ((n, le_refl (suc n), q), each_more (λ j l w r. C.chain u m w k.0 (h.1 j l w r)) (λ w r. rw (same_position q r) (C.same u)))
      go (inr k) = rw k.1 (held_before h.0, each_more h.1 (λ w r. rw (same_position q r) k.0))

best_lowest : (n : ℕ) (e : End) → Best ◌≤ℤ◌ n e (lowest n e)
unfolding lowest
best_lowest zero e = λ j l. absurd (omega arith)
best_lowest (suc n) e = best_join ◌≤ℤ◌ lesser lower n e (sound_at e n) (lowest n e) refl (best_lowest n e)

best_highest : (n : ℕ) (e : End) → Best (λ a b. b ≤ℤ a) n e (highest n e)
unfolding highest
best_highest zero e = λ j l. absurd (omega arith)
best_highest (suc n) e = best_join (λ a b. b ≤ℤ a) greater higher n e (sound_at e n) (highest n e) refl (best_highest n e)

-- ---- positions held, and their bounds

-- the position of an entry that has one
abbrev pub number : Entry → ℤ
number None = pos 0
number (Some u) = u

-- each sound receiver among 0 .. n - 1 holds a position
abbrev pub AllHold : ℕ → End → Type 0
AllHold n e = Each n (λ i. e.struck i ≡ false → e.at i ≡ Some (number (e.at i)))

-- and it lies between m and M
abbrev pub Inside : ℕ → End → ℤ → ℤ → Type 0
Inside n e m M = Each n (λ i. e.struck i ≡ false → HeldBetween (Some m) (Some M) (e.at i))

pub held_position : (a b x : Entry) → HeldBetween a b x → x ≡ Some (number x)
held_position a b None h = absurd h
held_position a b (Some u) h = refl

pub held_between : (m M : ℤ) (x : Entry) → HeldBetween (Some m) (Some M) x → (m ≤ℤ number x) × (number x ≤ℤ M)
held_between m M None h = absurd h
held_between m M (Some u) h = h

-- what `sound_at` shows is held
pub sound_holds : (b : Bool) (x : Entry) (u : ℤ) → cond b None x ≡ Some u → x ≡ Some u
sound_holds true x u q = absurd (not_null refl q)
sound_holds false x u q = q

inside_sound : (n : ℕ) (e : End) (m M u : ℤ) → Inside n e m M → Held n e u → (m ≤ℤ u) × (u ≤ℤ M)
inside_sound n e m M u I (i, l, q) = go (e.struck i) (e.at i) (I i l) q
  where
    go : (b : Bool) (x : Entry) → (b ≡ false → HeldBetween (Some m) (Some M) x) → cond b None x ≡ Some u → (m ≤ℤ u) × (u ≤ℤ M)
    go true x h q = absurd (not_null refl q)
    go false None h q = absurd (h refl)
    go false (Some w) h q = rw (same_position refl q) (h refl)

-- the lowest and the highest of n receivers
record Bounds (n : ℕ) (e : End) : Type 0 where
  low : ℤ
  high : ℤ
  low_high : low ≤ℤ high
  is_low : lowest n e ≡ Some low
  is_high : highest n e ≡ Some high
  low_held : Held n e low
  high_held : Held n e high
  inside : Inside n e low high

-- N receivers, at most f of the first n struck, and f below n: not all are
bounds : (n N f : ℕ) (e : End) → AtMost f n e.struck → f < n → n ≤ N → AllHold N e → Bounds N e
bounds n N f e few large more H = go (lowest N e) refl (best_lowest N e) (highest N e) refl (best_highest N e)
  where
    struck_of : (b : Bool) (x : Entry) → (b ≡ false → x ≡ Some (number x)) → cond b None x ≡ None → 1 ≤ bit b
    struck_of true x h q = omega arith
    struck_of false x h q = absurd (not_null q (h refl))

    not_all : Each N (λ j. sound_at e j ≡ None) → ⊥
    not_all h =
        omega (
          arith,
          sum_one n,
          sums_le n ((λ j. 1) ∷ []) ((λ j. bit (e.struck j)) ∷ [])
              (λ j l. let k : j < N = omega arith in omega (arith, struck_of (e.struck j) (e.at j) (H j k) (h j k))),
        )

    go : (a : Entry) → lowest N e ≡ a → Best ◌≤ℤ◌ N e a → (b : Entry) → highest N e ≡ b → Best (λ x y. y ≤ℤ x) N e b → Bounds N e
    go None p h b q k = absurd (not_all h)
    go (Some m) p h None q k = absurd (not_all k)
    go (Some m) p h (Some M) q k =
        record {
          low = m;
          high = M;
          low_high = h.1 k.0.0 k.0.1 M k.0.2;
          is_low = p;
          is_high = q;
          low_held = h.0;
          high_held = k.0;
          inside = λ i l s. let r = H i l s in let t : sound_at e i ≡ Some (number (e.at i)) = rw s r in rw r (h.1 i l _ t, k.1 i l _ t);
        }

-- ---- from one end to the next, and to any later one

-- Receivers 0 .. N - 1, of which 0 .. n - 1 are the heads: each receiver that is not struck holds a position, and between the bounds of the heads of
-- before; any two of them are near if Q holds.
pub record Nearer (n N : ℕ) (Q : Type 0) (e e' : End) : Type 0 where
  pub between : (m M : ℤ) → Inside n e m M → Inside N e' m M
  pub near : Q → (m M : ℤ) → Inside n e m M → (i i' : ℕ) → i < N → i' < N → (a b : ℤ) → sound_at e' i ≡ Some a → sound_at e' i' ≡ Some b
      → b ≤ℤ (a +ℤ pos ((gap m M + 1) / 2))

-- ends 0, 1, 2 .., each nearer than the one before, with the struck limit f
pub record Run (n N f : ℕ) (Q : Type 0) (E : ℕ → End) : Type 0 where
  pub large : f < n
  pub more : n ≤ N
  pub few : (p : ℕ) → AtMost f n (E p).struck
  pub holds : AllHold N (E 0)
  pub step : (p : ℕ) → Nearer n N Q (E p) (E (suc p))

module _ {n N f : ℕ} {Q : Type 0} {E : ℕ → End} (R : Run n N f Q E) where
  pub heads_inside : (p : ℕ) (m M : ℤ) → Inside N (E p) m M → Inside n (E p) m M
  heads_inside p m M I j l = I j (omega (arith, R.more))

  pub holds_at : (p : ℕ) → AllHold N (E p)
  holds_at zero = R.holds
  holds_at (suc p) =
      let B = bounds n N f (E p) (R.few p) R.large R.more (holds_at p) in
      λ i l s. held_position (Some B.low) (Some B.high) ((E (suc p)).at i)
      ((R.step p).between B.low B.high (heads_inside p B.low B.high B.inside) i l s)

  bounds_at : (p : ℕ) → Bounds N (E p)
  bounds_at p = bounds n N f (E p) (R.few p) R.large R.more (holds_at p)

  -- the lowest and the highest of an end
  pub bounds_inside : (p : ℕ) → (m : ℤ) × (M : ℤ) × (lowest N (E p) ≡ Some m) × (highest N (E p) ≡ Some M) × Inside N (E p) m M
  bounds_inside p = let B = bounds_at p in (B.low, B.high, B.is_low, B.is_high, B.inside)

  spread_halves : Q → (p : ℕ) → spread N (E (suc p)) ≤ (spread N (E p) + 1) / 2
  unfolding spread
  spread_halves q p =
      let B = bounds_at p in
      let B' = bounds_at (suc p) in
      let a = B'.low_held in
      let b = B'.high_held in
      let s = (gap B.low B.high + 1) / 2 in
      let inside = heads_inside p B.low B.high B.inside in
      rw (B.is_low, B.is_high, B'.is_low, B'.is_high)
      (omega (
        arithZ,
        (R.step p).near q B.low B.high inside a.0 b.0 a.1 b.1 B'.low B'.high a.2 b.2,
        gap_lin B'.low B'.high B'.low_high,
        sum_lin B'.low (pos s),
        pos_lin s,
      ))

  stays_inside : (p k : ℕ) (m M : ℤ) → Inside N (E p) m M → Inside N (E (p + k)) m M
  stays_inside p zero m M I = rw add-zero I
  stays_inside p (suc k) m M I = rw add-suc ((R.step (p + k)).between m M (heads_inside (p + k) m M (stays_inside p k m M I)))

  -- what holds between m and M stays there, and so does the spread
  pub spread_within : (p k : ℕ) (m M : ℤ) → Inside N (E p) m M → spread N (E (p + k)) ≤ gap m M
  unfolding spread
  spread_within p k m M I =
      let B = bounds_at (p + k) in
      let J = stays_inside p k m M I in
      let a = inside_sound N (E (p + k)) m M B.low J B.low_held in
      let b = inside_sound N (E (p + k)) m M B.high J B.high_held in
      let h = B.low_high in
      let t : m ≤ℤ M = omega (arithZ, a.0, b.1) in
      rw (B.is_low, B.is_high) (omega (arithZ, gap_lin B.low B.high h, gap_lin m M t, a.0, b.1))

  halves_again : Q → (p k : ℕ) → spread N (E (p + k)) ≤ halved k (spread N (E p))
  halves_again q p zero = rw add-zero (omega (arith, halved_zero (spread N (E p))))
  halves_again q p (suc k) =
      rw add-suc (omega (arith, spread_halves q (p + k), halves_again q p k, halved_suc k (spread N (E p))))

  pub any_two : (p k : ℕ) → Demand3 N Q k (E p) (E (p + k))
  any_two p k =
      let B = bounds_at p in
      record {
        range = rw (B.is_low, B.is_high) (stays_inside p k B.low B.high B.inside);
        halving = λ q. halves_again q p k;
      }
