-- Bytes planted from every head to every receiver; who receives; and marks with those of the listeners that are not there.
use mathlib.Core.Path.{◌≡◌, refl, ap, sym, ◌∙◌}
use mathlib.Core.Bool.{Bool, true, false, not, cond, ◌&&◌, ◌||◌, true≢false}
use mathlib.Core.List.{List, [], ◌∷◌}
use mathlib.Core.Logic.{inl, inr}
use Prim.Native.Nat.{ℕ, zero, suc, ◌+◌, ◌-◌, ◌*◌, ◌%◌, ◌^◌, ◌≤◌, ◌<◌}
use native.Mathlib.Omega.{arith}
use native.Mathlib.Nat.{mod-lt}
use borrow.Author.Tests.{eqb-true, eqb-false, eq-eqb, ltb-true, lt-ltb, ltb-false, le-leb, leb-true}
use lib.Dec.{eqb, ltb, leb}
use lib.Pow.{pow_pos}
use Rattle.terms.specs.Sizes.{is_listener}
use Rattle.terms.specs.Counting.{bit, AtMost}
use Rattle.terms.proofs.Sums.{sum_same}
use Rattle.terms.proofs.Booleans.{and_both}
use Rattle.marks.specs.Marks.{bit_of}
use Rattle.marks.proofs.Marks.{bit_all}
use Rattle.marks.proofs.Words.{bit_low, bit_high, word_low}
use Rattle.ring_spec.specs.Rounds.{Plant, planted, receivers, is_receiver, is_out}
use Rattle.ring_spec.proofs.Receivers.{Hears}

-- ---- planted from every head k to every receiver i: the bytes g k i

module _ (g : ℕ → ℕ → List ℕ) where
  unfoldable pub plants_to : ℕ → ℕ → List Plant → List Plant
  plants_to k zero ps = ps
  plants_to k (suc i) ps = record { from = k; to = i; bytes = g k i } ∷ plants_to k i ps

  to_reaches : (k m : ℕ) (ps : List Plant) (i : ℕ) → i < m → planted (plants_to k m ps) k i ≡ g k i
  unfolding plants_to
  to_reaches k zero ps i l = absurd (omega arith)
  to_reaches k (suc m) ps i l = rw (eq-eqb k k refl) (go (eqb m i) refl (to_reaches k m ps i))
    where
      go : (b : Bool) → eqb m i ≡ b → (i < m → planted (plants_to k m ps) k i ≡ g k i)
          → cond b (g k m) (planted (plants_to k m ps) k i) ≡ g k i
      go true e ih = ap (g k) (eqb-true m i e)
      go false e ih = let d : m ≡ i → ⊥ = eqb-false m i e in ih (omega arith)

  to_other : (k m : ℕ) (ps : List Plant) (j i : ℕ) → eqb k j ≡ false → planted (plants_to k m ps) j i ≡ planted ps j i
  unfolding plants_to
  to_other k zero ps j i e = refl
  to_other k (suc m) ps j i e = rw e (to_other k m ps j i e)

  unfoldable pub plants_of : ℕ → List Plant
  plants_of zero = []
  plants_of (suc k) = plants_to k receivers (plants_of k)

  pub plants_reach : (m k i : ℕ) → k < m → i < receivers → planted (plants_of m) k i ≡ g k i
  unfolding plants_of
  plants_reach zero k i l t = absurd (omega arith)
  plants_reach (suc m) k i l t = go (eqb m k) refl (plants_reach m k i)
    where
      go : (b : Bool) → eqb m k ≡ b → (k < m → i < receivers → planted (plants_of m) k i ≡ g k i)
          → planted (plants_to m receivers (plants_of m)) k i ≡ g k i
      go true e ih = let z = eqb-true m k e in rw z (to_reaches k receivers (plants_of k) i t)
      go false e ih = let d : m ≡ k → ⊥ = eqb-false m k e in to_other m receivers (plants_of m) k i e ∙ ih (omega arith) t

-- ---- who hears

pub head_receives : (n m k : ℕ) → k < n → is_receiver n m k ≡ true
head_receives n m k l = rw (lt-ltb k n l)

module _ (n m : ℕ) (most : n ≤ 32) (few : m ≤ 16) where
  pub receives : (i : ℕ) → is_receiver n m i ≡ true → Hears n i × (i < receivers)
  unfolding is_listener
  receives i = go (ltb i n) (leb 32 i) (ltb i (32 + m)) refl refl refl
    where
      go : (a b c : Bool) → ltb i n ≡ a → leb 32 i ≡ b → ltb i (32 + m) ≡ c → (a || (b && c)) ≡ true → Hears n i × (i < receivers)
      go true b c p q r e = let l = ltb-true i n p in (inl l, omega arith)
      go false true true p q r e = let l = ltb-true i (32 + m) r in (inr (rw (q, le-leb i 47 (omega arith))), omega arith)
      go false true false p q r e = absurd (true≢false (sym e))
      go false false c p q r e = absurd (true≢false (sym e))

-- neither marked nor missing
pub sound_receives : (n m marks i : ℕ) → is_out n m marks i ≡ false → (is_receiver n m i ≡ true) × (bit_of marks i ≡ false)
sound_receives n m marks i = go (is_receiver n m i) (bit_of marks i)
  where
    go : (a b : Bool) → (not a || b) ≡ false → (a ≡ true) × (b ≡ false)
    go true b e = (refl, e)
    go false b e = absurd (true≢false e)

pub receives_sound : (n m marks i : ℕ) → is_receiver n m i ≡ true → bit_of marks i ≡ false → is_out n m marks i ≡ false
receives_sound n m marks i a b = rw (a, b)

-- ---- marks with those of the listeners that are not there: a plain ring has all 16

unfoldable pub with_absent : (m marks : ℕ) → ℕ
with_absent m marks = marks % 2 ^ (32 + m) + 2 ^ (32 + m) * 65535

module _ (n m : ℕ) (most : n ≤ 32) (marks : ℕ) where
  pub present_same : (i : ℕ) → is_receiver n m i ≡ true → bit_of (with_absent m marks) i ≡ bit_of marks i
  unfolding with_absent
  present_same i t = let l = below (ltb i n) (leb 32 i) (ltb i (32 + m)) refl refl t in
      bit_low (marks % 2 ^ (32 + m)) 65535 (32 + m) i l ∙ sym (word_low marks (32 + m) i l)
    where
      below : (a b c : Bool) → ltb i n ≡ a → ltb i (32 + m) ≡ c → (a || (b && c)) ≡ true → i < 32 + m
      below true b c p r e = omega (arith, ltb-true i n p)
      below false true true p r e = ltb-true i (32 + m) r
      below false true false p r e = absurd (true≢false (sym e))
      below false false c p r e = absurd (true≢false (sym e))

  pub few_absent : (f : ℕ) → AtMost f n (bit_of marks) → AtMost f n (bit_of (with_absent m marks))
  few_absent f few =
      omega (arith, sum_same n (λ j. bit (bit_of (with_absent m marks) j)) (λ j. bit (bit_of marks j)) (λ j l. ap bit (present_same j (head_receives n m j l))))

  -- the same are out
  pub out_same : (i : ℕ) → is_out n m marks i ≡ is_out n m (with_absent m marks) i
  out_same i = go (is_receiver n m i) (λ t. sym (present_same i t))
    where
      go : (b : Bool) {x y : Bool} → (b ≡ true → x ≡ y) → (not b || x) ≡ (not b || y)
      go true e = e refl
      go false e = refl

  -- who hears and is not marked is there
  pub unmarked_there : (i : ℕ) → Hears n i → bit_of (with_absent m marks) i ≡ false → is_receiver n m i ≡ true
  unfolding with_absent is_listener
  unmarked_there i (inl l) q = head_receives n m i l
  unmarked_there i (inr e) q = go (ltb i (32 + m)) refl
    where
      bounds : (32 ≤ i) × (i ≤ 47)
      bounds = let (a, b) = and_both (leb 32 i) (leb i 47) e in (leb-true 32 i a, leb-true i 47 b)

      or_right : (a : Bool) → (a || true) ≡ true
      or_right true = refl
      or_right false = refl

      go : (c : Bool) → ltb i (32 + m) ≡ c → (ltb i n || (leb 32 i && c)) ≡ true
      go true p = rw (le-leb 32 i bounds.0) (or_right (ltb i n))
      go false p =
          let h : 32 + m ≤ i = ltb-false i (32 + m) p in
          let (a, b) = bounds in
          absurd (true≢false (sym (bit_high (marks % 2 ^ (32 + m)) 65535 (32 + m) i (mod-lt marks (pow_pos (32 + m))) h
          ∙ bit_all 65535 16 (i - (32 + m)) refl (omega arith)) ∙ q))
