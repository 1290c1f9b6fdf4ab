-- The new position from positions in order. Of n entries each is a position or null, so the nulls are the n entries less the positions: the
-- positions in order say all that settling asks of a table.
use Rattle.std.specs.Prelude.{Ok, Err}
use mathlib.Core.Path.{◌≡◌, refl, ap, sym, ◌∙◌}
use mathlib.Core.List.{List}
use Prim.Native.Nat.{ℕ, ◌-◌, ◌≤◌, ◌<◌, min}
use native.Mathlib.Omega.{arith}
use native.Mathlib.Decide.{dec_le}
use lib.ListN.{length, get_or, take, length-take}
use lib.Seq.{take_all}
use lib.IntN.{ℤ, pos, ◌+ℤ◌}
use borrow.Author.Tests.{le-leb, lt-leb}
use Rattle.terms.specs.Refusals as refusal
use Rattle.terms.specs.Positions.{half}
use Rattle.terms.specs.Entry.{Entry}
use Rattle.terms.specs.Counting.{Each}
use Rattle.convergence.specs.Settling.{Rule, nulls, ordered, low_kept, high_kept, middle, enough}
use Rattle.convergence.proofs.Order.{length_ordered}
use Rattle.convergence.proofs.Same.{ordered_same}
use Rattle.settle_midpoint.specs.declared.Order.{Order}
use Rattle.settle_midpoint.specs.Answers.{settling, settling_from}
use Rattle.settle_midpoint.specs.Orders.{OrderAfter, order_of, in_order}
use Rattle.settle_midpoint.proofs.Ordering.{padded_front}

pub settling_from_lem : (r n : ℕ) (R : Rule) (E : ℕ → Entry) → settling r n R E ≡ settling_from r n R (ordered n E)
unfolding settling settling_from enough
settling_from_lem r n R E =
    let z : nulls n E ≡ n - length (ordered n E) = omega (arith, length_ordered n E) in
    rw z

-- what is settled depends on the entries 0 .. n - 1 only
pub settling_same : (r n : ℕ) (R : Rule) (E E' : ℕ → Entry) → Each n (λ j. E j ≡ E' j) → settling r n R E ≡ settling r n R E'
settling_same r n R E E' h = settling_from_lem r n R E ∙ ap (settling_from r n R) (ordered_same n E E' h) ∙ sym (settling_from_lem r n R E')

-- after n entries the order says all that settling asks of them
pub settling_after : (r n : ℕ) (R : Rule) (E : ℕ → Entry) {len : ℕ} {a : List ℤ} → OrderAfter n E len a → settling_from r n R (take len a) ≡ settling r n R E
settling_after r n R E h = rw (h.counts, h.holds, padded_front (ordered n E)) (sym (settling_from_lem r n R E))

-- the same of an order
pub order_settles : (r n : ℕ) (R : Rule) (E : ℕ → Entry) {o : Order} → o ≡ order_of (ordered n E) → settling_from r n R (in_order o) ≡ settling r n R E
order_settles r n R E e = rw e (settling_after r n R E (record { counts = refl; holds = refl }))

-- ---- as the code works it out

-- a: the slice; c: how many of its positions count; z: the nulls; r: how an odd sum is rounded
module _ (a : List ℤ) (L n r : ℕ) (R : Rule) {c z : ℕ} (counted : c ≡ min L (length a)) (nulls_are : z ≡ n - c) where
  abbrev l : List ℤ
  l = take L a

  front_length : length l ≡ c
  front_length = length-take L a ∙ sym counted

  front_is : take c a ≡ l
  front_is = go (dec_le (length a) L)
    where
      go : Dec (length a ≤ L) → take c a ≡ l
      go (yes h) = take_all c a (omega arith) ∙ sym (take_all L a (omega arith))
      go (no h) = let e : c ≡ L = omega arith in rw e

  pub too_few_refuses : R.most < z → Err refusal.too_few_trusted ≡ settling_from r n R l
  unfolding settling_from
  too_few_refuses h = rw (front_length, ← nulls_are, lt-leb z R.most h)

  low_is : (t : ℕ) → get_or (take c a) t (pos 0) ≡ low_kept t l
  unfolding low_kept
  low_is t = rw front_is

  high_is : (t : ℕ) → get_or (take c a) (c - 1 - t) (pos 0) ≡ high_kept t l
  unfolding high_kept
  high_is t = rw (front_is, front_length)

  -- t: the trim; x and y: the lowest and the highest kept, y at place k; m: the new position
  pub enough_settles : {t k : ℕ} {x y m : ℤ} → z ≤ R.most → t ≡ R.trim z → x ≡ get_or (take c a) t (pos 0) → k ≡ c - 1 - t
      → y ≡ get_or (take c a) k (pos 0) → m ≡ half r (x +ℤ y)
      → Ok (record { low = x; high = y; trim = t; position = m }) ≡ settling_from r n R l
  unfolding settling_from middle
  enough_settles {t} few trim-is at-t top at_k is-half =
      rw (is-half, at_k, top, at-t, low_is t, high_is t, trim-is, front_length, ← nulls_are, le-leb z R.most few)
