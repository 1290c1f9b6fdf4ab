-- The offer beside a head: it is read from words 18 to 22 alone, it is read as it was put, and the record is no other for it.
use Rattle.std.specs.Prelude.{None, Some}
use mathlib.Core.Path.{◌≡◌, refl, sym, ◌∙◌}
use mathlib.Core.List.{List, [], ◌∷◌}
use Prim.Native.Nat.{ℕ, zero, suc, ◌+◌, ◌%◌, ◌≤◌, ◌<◌}
use native.Mathlib.Omega.{arith}
use native.Mathlib.Nat.{mod-eq_of_lt}
use lib.ListN.{length, get_or, set}
use lib.Seq.{get_or-set_same, sets-eq, paste}
use Rattle.fields.specs.Bytes.{signed_of, word_of}
use Rattle.settle_midpoint.specs.declared.Kept.{Kept}
use Rattle.head_spec.specs.Kept.{LastKept, Offer}
use Rattle.head_spec.specs.Offers.{lapsed}
use Rattle.head_c.specs.Blocks.{IsBlock, head_of, offer_in, offer_of, with_offer, without_offer}
use Rattle.head_c.proofs.Copying.{copied_before, copied_there, copied_behind}
use Rattle.head_c.proofs.Blocks.{signed_back, signed_fits, FitLast}
use Rattle.head_c.proofs.Changes.{head_same, set_apart}

-- ---- what is read

pub same_offer : (w' w : List ℕ) → ((i : ℕ) → 18 ≤ i → i < 23 → get_or w' i 0 ≡ get_or w i 0) → offer_of w' ≡ offer_of w
unfolding offer_of
same_offer w' w h = λ i.
    offer_in (h 18 (omega arith) (omega arith) i) (signed_of (h 19 (omega arith) (omega arith) i)) (signed_of (h 20 (omega arith) (omega arith) i))
    (h 21 (omega arith) (omega arith) i % 256)
    (signed_of (h 22 (omega arith) (omega arith) i))

pub no_offer : (w : List ℕ) → get_or w 18 0 ≡ 0 → offer_of w ≡ None
unfolding offer_of
no_offer w e = rw e

-- its numbers fit their words
abbrev pub FitOffer : Offer → Type 0
FitOffer None = Unit {0}
FitOffer (Some k) = FitLast (Some k)

pub offer_fits : (w : List ℕ) → FitOffer (offer_of w)
unfolding offer_of
offer_fits w = go (get_or w 18 0)
  where
    go : (b : ℕ)
        → FitOffer (offer_in b (signed_of (get_or w 19 0)) (signed_of (get_or w 20 0)) (get_or w 21 0 % 256) (signed_of (get_or w 22 0)))
    go zero = tt
    go (suc b) = (signed_fits (get_or w 19 0), signed_fits (get_or w 20 0), omega arith, signed_fits (get_or w 22 0))

-- ---- what was put

-- five words, from word 18 on
abbrev pub offer_words : Kept → List ℕ
offer_words k = 1 ∷ word_of k.low ∷ word_of k.high ∷ k.trim ∷ word_of k.position ∷ []

module _ (k : Kept) (w : List ℕ) (block : IsBlock w) where
  abbrev w' : List ℕ
  w' = with_offer (Some k) w

  put_offer : paste w 18 (offer_words k) 5 ≡ w'
  put_offer = sym (sets-eq (offer_words k) w 18 (omega arith))

  put_there : (j : ℕ) → j < 5 → get_or w' (18 + j) 0 ≡ get_or (offer_words k) j 0
  put_there j l = rw (← put_offer) (copied_there w (offer_words k) 18 5 0 refl (omega arith) j l)

  put_before : (i : ℕ) → i < 18 → get_or w' i 0 ≡ get_or w i 0
  put_before i l = rw (← put_offer) (copied_before w (offer_words k) 18 5 0 refl (omega arith) i l)

  pub put_behind_lem : (i : ℕ) → 23 ≤ i → get_or w' i 0 ≡ get_or w i 0
  put_behind_lem i l = rw (← put_offer) (copied_behind w (offer_words k) 18 5 0 refl (omega arith) i l)

  pub offer_back : FitOffer (Some k) → offer_of w' ≡ Some k
  unfolding offer_of
  offer_back F =
      (λ i.
      offer_in (put_there 0 (omega arith) i) (signed_of (put_there 1 (omega arith) i)) (signed_of (put_there 2 (omega arith) i)) (put_there 3 (omega arith) i % 256)
      (signed_of (put_there 4 (omega arith) i)))
      ∙ (λ i.
      Some
      (record {
        low = signed_back k.low F.0 i;
        high = signed_back k.high F.1 i;
        trim = mod-eq_of_lt F.2 i;
        position = signed_back k.position F.3 i;
      }))

  -- the record is no other for it
  pub offer_apart : head_of w' ≡ head_of w
  offer_apart = head_same w w' (λ i l. put_before i (omega arith)) (λ i l. put_behind_lem i (omega arith))

pub offer_ended : (c : ℕ) (w' w : List ℕ) → 22 < length w' → offer_of w' ≡ offer_of w → offer_of (without_offer c w') ≡ lapsed c (offer_of w)
offer_ended zero w' w long e = no_offer (set w' 18 0) (get_or-set_same w' 18 0 0 (omega arith))
offer_ended (suc c) w' w long e = e

pub ended_apart : (c : ℕ) (w : List ℕ) → head_of (without_offer c w) ≡ head_of w
ended_apart zero w = set_apart w 18 0 (omega arith) (omega arith)
ended_apart (suc c) w = refl
