-- Who hears in a ring of n heads and m listeners: a receiver that is neither struck nor missing is a head or a listener, and on heads it makes no difference that
-- listeners are counted. At the start all listeners count as struck, and no head.
use mathlib.Core.Path.{◌≡◌, refl, sym, ◌∙◌}
use mathlib.Core.Bool.{Bool, true, false, not, ◌&&◌, ◌||◌, true≢false}
use mathlib.Core.Logic.{◌⊎◌, inl, inr}
use Prim.Native.Nat.{ℕ, ◌+◌, ◌*◌, ◌-◌, ◌^◌, ◌≤◌, ◌<◌}
use native.Mathlib.Omega.{arith}
use lib.Dec.{ltb, leb}
use borrow.Author.Tests.{ltb-true, leb-true, lt-ltb, le-leb}
use Rattle.terms.specs.Sizes.{is_listener}
use Rattle.terms.proofs.Booleans.{and_both}
use Rattle.marks.specs.Marks.{bit_of}
use Rattle.marks.proofs.Marks.{bit_none, bit_all}
use Rattle.marks.proofs.Words.{bit_low, bit_high}
use Rattle.terms.specs.Counting.{bit, AtMost}
use Rattle.terms.proofs.Sums.{sum_same}
use Rattle.ring_spec.specs.Rounds.{receivers, is_out, all_listeners}

-- i is a head's number or a listener's
abbrev pub Hears : ℕ → ℕ → Type 0
Hears n i = (i < n) ⊎ (is_listener i ≡ true)

pub listener_large : (i : ℕ) → is_listener i ≡ true → 32 ≤ i
unfolding is_listener
listener_large i e = leb-true 32 i (and_both (leb 32 i) _ e).0

module _ (n m marks : ℕ) where
  pub head_out : (i : ℕ) → i < n → is_out n m marks i ≡ bit_of marks i
  head_out i l = rw (lt-ltb i n l)

  pub few_out : (f : ℕ) → AtMost f n (bit_of marks) → AtMost f n (is_out n m marks)
  few_out f few = omega (arith, sum_same n (λ j. bit (is_out n m marks j)) (λ j. bit (bit_of marks j)) (λ j l. rw (head_out j l)))

  -- neither struck nor missing
  pub hears : (i : ℕ) → i < receivers → is_out n m marks i ≡ false → Hears n i × (bit_of marks i ≡ false)
  unfolding is_listener
  hears i l = go (ltb i n) (leb 32 i) (ltb i (32 + m)) (bit_of marks i) refl refl refl
    where
      go : (h a b c : Bool) → ltb i n ≡ h → leb 32 i ≡ a → bit_of marks i ≡ c → (not (h || (a && b)) || c) ≡ false → Hears n i × (bit_of marks i ≡ false)
      go true a b true p q r e = absurd (true≢false e)
      go true a b false p q r e = (inl (ltb-true i n p), r)
      go false true true true p q r e = absurd (true≢false e)
      go false true true false p q r e = (inr (rw (q, le-leb i 47 (omega arith))), r)
      go false true false c p q r e = absurd (true≢false e)
      go false false b c p q r e = absurd (true≢false e)

-- ---- the start

pub head_first : (i : ℕ) → i < 32 → bit_of all_listeners i ≡ false
head_first i l = let e : all_listeners ≡ 0 + 2 ^ 32 * 65535 = refl in rw e (bit_low 0 65535 32 i l ∙ bit_none i)

listener_first : (i : ℕ) → 32 ≤ i → i < receivers → bit_of all_listeners i ≡ true
listener_first i h l =
    let e : all_listeners ≡ 0 + 2 ^ 32 * 65535 = refl in
    rw e (bit_high 0 65535 32 i (omega arith) h ∙ bit_all 65535 16 (i - 32) refl (omega arith))

or_true : (b : Bool) → (b || true) ≡ true
or_true true = refl
or_true false = refl

-- only heads count
pub first_out : (n m i : ℕ) → n ≤ 32 → i < receivers → is_out n m all_listeners i ≡ not (ltb i n)
first_out n m i most l = go (ltb i n) (leb 32 i) refl refl
  where
    go : (h a : Bool) → ltb i n ≡ h → leb 32 i ≡ a → (not (h || (a && ltb i (32 + m))) || bit_of all_listeners i) ≡ not h
    go true a p q = head_first i (omega (arith, ltb-true i n p))
    go false true p q = rw (listener_first i (leb-true 32 i q) l) (or_true (not (ltb i (32 + m))))
    go false false p q = refl

-- however many listeners there are
pub first_out_as : (n m k i : ℕ) → i < receivers → is_out n m all_listeners i ≡ is_out n k all_listeners i
first_out_as n m k i l = go (ltb i n) (leb 32 i) refl
  where
    go : (h a : Bool) → leb 32 i ≡ a → (not (h || (a && ltb i (32 + m))) || bit_of all_listeners i) ≡ (not (h || (a && ltb i (32 + k))) || bit_of all_listeners i)
    go true a q = refl
    go false true q = rw (listener_first i (leb-true 32 i q) l) (or_true (not (ltb i (32 + m))) ∙ sym (or_true (not (ltb i (32 + k)))))
    go false false q = refl
