-- Hearing ends an offer: what is said on a link and accepted clears word 18, and what is refused leaves the block. A batch ends it with its first accepted frame.
use Rattle.std.specs.Prelude.{None}
use mathlib.Core.Path.{◌≡◌, refl, ap, sym, ◌∙◌}
use mathlib.Core.Bool.{not}
use mathlib.Core.List.{List, [], ◌∷◌}
use Prim.Native.Nat.{ℕ, zero, suc, ◌≤◌, ◌<◌}
use native.Mathlib.Omega.{arith}
use lib.Dec.{ltb}
use lib.Seq.{get_or-set_same}
use borrow.Author.Tests.{ltb-true}
use Rattle.terms.specs.Refusals.{leaves, unless_refused}
use Rattle.frame_check.specs.Check.{Kind, position, silence, list, confession, unknown, kind_field}
use Rattle.terms.proofs.Checks.{passed}
use Rattle.frame_spec.specs.Said.{Meaning, refused, rest_field, meaning, said}
use Rattle.frame_spec.specs.Proper.{AcceptedMeaning}
use Rattle.head_spec.specs.declared.Seat.{Seat}
use Rattle.head_spec.specs.declared.Head.{Head}
use Rattle.head_spec.specs.declared.Answer.{Answer}
use Rattle.head_spec.specs.Kept.{Offer}
use Rattle.head_spec.specs.Calls.{Delivery, hear, said_to, refusal_to, answers_to}
use Rattle.head_spec.specs.Offers.{lapsed, lapsed_by}
use Rattle.head_spec.proofs.Taking.{hear_keeps}
use Rattle.head_hear.specs.Steps.{link_refusal}
use Rattle.head_hear.proofs.OneLink.{answered, link_answered}
use Rattle.head_c.specs.Blocks.{IsBlock, head_of, offer_of, block_with, heard_in, heard_each}
use Rattle.head_c.proofs.Offers.{no_offer}
use Rattle.head_c.proofs.Hearing.{head_heard, heard_below, heard_refused, link_block}
use Rattle.head_c.proofs.Registers.{either_way, changed_registers, heard_block_lem}

module _ (w : List ℕ) (block : IsBlock w) (k : ℕ) (s : List ℕ) where
  abbrev heard : List ℕ
  heard = leaves (hear (head_of w) k s).refusal (heard_in w k (said_to (head_of w).seat k s)) w

  pub heard_block' : IsBlock heard
  heard_block' = either_way IsBlock (hear (head_of w) k s).refusal (heard_block_lem w block k _) block

  -- what is said and accepted ends an offer
  lapses : k < 32 → (m : Meaning) → AcceptedMeaning m → offer_of (heard_in w k m) ≡ None
  lapses l m a =
      rw (heard_below w k m l)
      (no_offer (block_with w k m) (changed_registers w block 18 (omega arith) (omega arith) k l m a ∙ get_or-set_same w 18 0 0 (omega arith)))

  pub offer_heard : (head_of w).seat.n ≤ 32 → offer_of heard ≡ lapsed (hear (head_of w) k s).refusal (offer_of w)
  unfolding said
  offer_heard small =
      ap offer_of (sym (link_block w block k s))
      ∙ go (link_refusal x.ended x.n (head_of w).heard k) (refusal_to x k s) (kind_field s) below
      ∙ ap (λ (c : ℕ). lapsed c (offer_of w)) (ap (λ (a : Answer). a.refusal) (link_answered (head_of w) k s))
    where
      x : Seat
      x = (head_of w).seat

      below : link_refusal x.ended x.n (head_of w).heard k ≡ 0 → k < 32
      below e = omega (arith, ltb-true k x.n (passed (ltb k x.n) 2 (passed (not x.ended) 25 e).1).0)

      go : (c d : ℕ) (K : Kind) → (c ≡ 0 → k < 32) → let m = unless_refused refused c (unless_refused refused d (meaning K x.n (rest_field s))) in
          offer_of (heard_in w k m) ≡ lapsed (answered (head_of w) k m).refusal (offer_of w)
      go (suc c) d K l = ap offer_of (heard_refused w k (suc c))
      go zero (suc d) K l = ap offer_of (heard_refused w k (suc d))
      go zero zero position l = lapses (l refl) _ tt
      go zero zero silence l = lapses (l refl) _ tt
      go zero zero list l = lapses (l refl) _ tt
      go zero zero confession l = lapses (l refl) _ tt
      go zero zero unknown l = ap offer_of (heard_refused w k _)

pub offer_each : (D : List Delivery) (w : List ℕ) → IsBlock w → (head_of w).seat.n ≤ 32
    → offer_of (heard_each w D) ≡ lapsed_by (answers_to (head_of w) D) (offer_of w)
unfolding heard_each answers_to lapsed_by
offer_each [] w block small = refl
offer_each (d ∷ D) w block small =
    let k = d.link in
    let s = d.bytes in
    let w₁ = heard w block k s in
    let head : head_of w₁ ≡ (hear (head_of w) k s).head = head_heard w block k s in
    let n : (head_of w₁).seat.n ≡ (head_of w).seat.n = ap (λ (h : Head). h.seat.n) head ∙ ap (λ (x : Seat). x.n) (hear_keeps (head_of w) k s) in
    offer_each D w₁ (heard_block' w block k s) (omega arith) ∙ (λ i. lapsed_by (answers_to (head i) D) (offer_heard w block k s small i))
