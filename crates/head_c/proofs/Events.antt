-- What stands beside the head after a call (document 02, A5), and the offer (A8), and that neither the record nor any other word is another for them: words
-- 16 to 23 are no part of the record.
use Rattle.std.specs.Prelude.{None, Some}
use mathlib.Core.Path.{◌≡◌, refl, ◌∙◌}
use mathlib.Core.List.{List, ◌∷◌}
use Prim.Native.Nat.{ℕ, zero, suc, ◌≤◌, ◌<◌}
use native.Mathlib.Omega.{arith}
use lib.ListN.{length, get_or, set, drop, length-append, length-set}
use lib.Seq.{get_or-set_same, get_or-set_other}
use lib.IntN.{ℤ}
use Rattle.terms.specs.Refusals.{leaves}
use Rattle.terms.specs.declared.Family.{Family}
use Rattle.head_spec.specs.Kept.{LastKept, Offer}
use Rattle.head_spec.specs.declared.Head.{Head}
use Rattle.head_spec.specs.declared.Answer.{Answer}
use Rattle.head_spec.specs.declared.Closed.{Closed}
use Rattle.head_spec.specs.Calls.{start, restart, start_listener, restart_listener, Delivery, hear, said_to, answers_to, close, adopt}
use Rattle.head_spec.specs.Batch.{deliveries_of, batch_refusal}
use Rattle.head_spec.specs.Offers.{lapsed, lapsed_by, offered}
use Rattle.head_spec.proofs.Proper.{ProperHead}
use Rattle.head_spec.proofs.RoundClose.{ProperClosed, proper_closed}
use Rattle.head_window.specs.declared.Registers.{Registers}
use Rattle.head_c.specs.Blocks.{IsBlock, head_of, with_head, with_answer, registers_of, with_registers, offer_of, with_offer, without_offer, with_closing, heard_in, heard_each}
use Rattle.head_c.specs.Events.{Call, starts, restarts, starts_listener, restarts_listener, hears, hears_batch, closes, adopts, sets, block_after, OnlyTheseChange}
use Rattle.head_c.proofs.Putting.{second, third, second_long}
use Rattle.head_c.proofs.Changes.{set_apart}
use Rattle.head_c.proofs.Offers.{same_offer, FitOffer, put_behind_lem, offer_back, offer_ended, ended_apart}
use Rattle.head_c.proofs.Lapsing.{offer_heard, offer_each}
use Rattle.head_c.proofs.Registers.{either_way, put_registers, after_registers, heard_registers, each_registers}
use Rattle.head_c.proofs.Calls.{last_fits, seat_fits, after_start, after_restart, after_start_listener, after_restart_listener, after_close, after_adopt}

same_registers : (w' w : List ℕ) → get_or w' 16 0 ≡ get_or w 16 0 → get_or w' 17 0 ≡ get_or w 17 0 → registers_of w' ≡ registers_of w
same_registers w' w p q = λ i. record { events = p i; mask = q i }

-- what was put beside the head is read
pub registers_back : (b : Registers) (w : List ℕ) → 22 < length w → registers_of (with_registers b w) ≡ b
registers_back b w l =
    let one = set w 16 b.events in
    let long : 17 < length one = rw (length-set w 16 b.events) (omega arith) in
    let events = get_or-set_other one 17 16 b.mask 0 (omega arith) ∙ get_or-set_same w 16 b.events 0 (omega arith) in
    λ i. record { events = events i; mask = get_or-set_same one 17 b.mask 0 long i }

-- and it is all that is changed
module _ (b : Registers) (w : List ℕ) where
  kept : (i : ℕ) → (i ≡ 16 → ⊥) → (i ≡ 17 → ⊥) → get_or (with_registers b w) i 0 ≡ get_or w i 0
  kept i d e = get_or-set_other (set w 16 b.events) 17 i b.mask 0 (omega arith) ∙ get_or-set_other w 16 i b.events 0 (omega arith)

  pub head_apart : head_of (with_registers b w) ≡ head_of w
  head_apart = set_apart (set w 16 b.events) 17 b.mask (omega arith) (omega arith) ∙ set_apart w 16 b.events (omega arith) (omega arith)

  offer_kept : offer_of (with_registers b w) ≡ offer_of w
  offer_kept = same_offer (with_registers b w) w (λ i from to. kept i (λ e. omega arith) (λ e. omega arith))

-- an offer that is ended leaves what stands beside it
ended_registers : (c : ℕ) (w : List ℕ) → registers_of (without_offer c w) ≡ registers_of w
ended_registers zero w = same_registers (set w 18 0) w (get_or-set_other w 18 16 0 0 (omega arith)) (get_or-set_other w 18 17 0 0 (omega arith))
ended_registers (suc c) w = refl

-- ---- a block is long enough for it after a call

put_long : (w : List ℕ) (h : Head) → IsBlock w → 22 < length (with_head h w)
unfolding with_head
put_long w h block =
    omega (
      arith,
      second_long h w block,
      length-append (third h w) (drop 92 w),
      length-append (second h w) (h.links.confessed ∷ h.links.listed ∷ h.links.marks),
    )

after_long : (w : List ℕ) (a : Answer) → IsBlock w → 22 < length (with_answer w a)
unfolding with_answer
after_long w a block = either_way (λ x. 22 < length x) a.refusal (put_long w a.head block) (omega arith)

closing_long : (w : List ℕ) (c : Closed) (h : Head) → IsBlock w → 22 < length (with_closing c h w)
closing_long w (Closed.Refused c) h block = omega arith
closing_long w Closed.Listed h block = put_long w h block
closing_long w (Closed.Settled k) h block = let long : length (with_offer (Some k) w) ≡ 1116 = simp length-set block in omega arith

-- ---- only these change it

-- a start, a restart and an adoption
module _ (w : List ℕ) (block : IsBlock w) (b : Registers) (a : Answer) where
  abbrev left : List ℕ
  left = with_registers b (with_answer w a)

  put_after : registers_of (without_offer a.refusal left) ≡ b
  put_after = ended_registers a.refusal left ∙ registers_back b (with_answer w a) (after_long w a block)

  pub offer_after_lem : offer_of (without_offer a.refusal left) ≡ lapsed a.refusal (offer_of w)
  offer_after_lem =
      let long : 22 < length left = simp length-set (after_long w a block) in
      offer_ended a.refusal left w long
      (offer_kept b (with_answer w a) ∙ same_offer (with_answer w a) w (λ i from to. after_registers w block i (omega arith) (omega arith) a))

-- a closing
module _ (w : List ℕ) (block : IsBlock w) where
  proper_fits : (f : ℕ) (c : Closed) → f < 256 → ProperClosed f c → FitOffer (offered c None)
  proper_fits f (Closed.Refused c) l P = tt
  proper_fits f Closed.Listed l P = tt
  proper_fits f (Closed.Settled k) l P = last_fits f (Some k) l P

  offer_closed : (c : Closed) (h : Head) → FitOffer (offered c None) → offer_of (with_closing c h w) ≡ offered c (offer_of w)
  offer_closed (Closed.Refused c) h F = refl
  offer_closed Closed.Listed h F = same_offer (with_head h w) w (λ i from to. put_registers w block i (omega arith) (omega arith) h)
  offer_closed (Closed.Settled k) h F = offer_back k w block F

pub only_these_change : OnlyTheseChange
unfolding block_after
only_these_change w (starts K n f i v) block = let a = start (head_of w) K n f i v in (put_after w block _ a, λ P. offer_after_lem w block _ a)
only_these_change w (restarts K n f i p r) block = let a = restart (head_of w) K n f i p r in (put_after w block _ a, λ P. offer_after_lem w block _ a)
only_these_change w (starts_listener K n f i) block = let a = start_listener (head_of w) K n f i in (put_after w block _ a, λ P. offer_after_lem w block _ a)
only_these_change w (restarts_listener K n f i p r) block = let a = restart_listener (head_of w) K n f i p r in (put_after w block _ a, λ P. offer_after_lem w block _ a)
only_these_change w adopts block = let a = adopt (head_of w) (offer_of w) in (put_after w block _ a, λ P. offer_after_lem w block _ a)
only_these_change w (sets at x) block = (registers_back _ w (omega arith), λ P. offer_kept _ w)
only_these_change w closes block =
    let q = close (head_of w) in
    let w' = with_closing q.closed q.head w in (
      registers_back _ w' (closing_long w q.closed q.head block),
      λ P. offer_kept _ w' ∙ offer_closed w block q.closed q.head
          (proper_fits w block (head_of w).seat.f q.closed (seat_fits (head_of w).seat P.seat).f (proper_closed (head_of w) P)),
    )
only_these_change w (hears k s) block =
    let m = said_to (head_of w).seat k s in (
      either_way (λ x. registers_of x ≡ registers_of w) (hear (head_of w) k s).refusal
          (same_registers (heard_in w k m) w (heard_registers w block 16 (omega arith) (omega arith) (omega arith) k m)
          (heard_registers w block 17 (omega arith) (omega arith) (omega arith) k m)) refl,
      λ P. offer_heard w block k s P.seat.size.most,
    )
only_these_change w (hears_batch s room) block = (
  either_way (λ x. registers_of x ≡ registers_of w) (batch_refusal s room)
      (same_registers (heard_each w D) w (each_registers D w block 16 (omega arith) (omega arith) (omega arith))
      (each_registers D w block 17 (omega arith) (omega arith) (omega arith))) refl,
  λ P. all (batch_refusal s room) P.seat.size.most,
)
  where
    D : List Delivery
    D = deliveries_of s

    all : (c : ℕ) → (head_of w).seat.n ≤ 32
        → offer_of (leaves c (heard_each w D) w) ≡ leaves c (lapsed_by (answers_to (head_of w) D) (offer_of w)) (offer_of w)
    all zero small = offer_each D w block small
    all (suc c) small = refl

-- ---- the other word, 23, is kept by every call

module _ (w : List ℕ) (block : IsBlock w) where
  abbrev Stays : List ℕ → Type 0
  Stays w' = get_or w' 23 0 ≡ get_or w 23 0

  set_stays : (j x : ℕ) (w' : List ℕ) → j < 23 → Stays w' → Stays (set w' j x)
  set_stays j x w' l e = get_or-set_other w' j 23 x 0 (omega arith) ∙ e

  registers_stays : (b : Registers) (w' : List ℕ) → Stays w' → Stays (with_registers b w')
  registers_stays b w' e =
      set_stays 17 b.mask (set w' 16 b.events) (omega arith) (set_stays 16 b.events w' (omega arith) e)

  call_stays : (b : Registers) (a : Answer) → Stays (without_offer a.refusal (with_registers b (with_answer w a)))
  call_stays b a =
      let e : Stays (with_registers b (with_answer w a)) = registers_stays b (with_answer w a) (after_registers w block 23 (omega arith) (omega arith) a) in
      either_way Stays a.refusal (set_stays 18 0 (with_registers b (with_answer w a)) (omega arith) e) e

  closing_stays : (c : Closed) (h : Head) → Stays (with_closing c h w)
  closing_stays (Closed.Refused c) h = refl
  closing_stays Closed.Listed h = put_registers w block 23 (omega arith) (omega arith) h
  closing_stays (Closed.Settled k) h = put_behind_lem k w block 23 (omega arith)

  pub others_stay : (c : Call) → Stays (block_after w c)
  unfolding block_after
  others_stay (starts K n f j v) = call_stays _ (start (head_of w) K n f j v)
  others_stay (restarts K n f j p r) = call_stays _ (restart (head_of w) K n f j p r)
  others_stay (starts_listener K n f j) = call_stays _ (start_listener (head_of w) K n f j)
  others_stay (restarts_listener K n f j p r) = call_stays _ (restart_listener (head_of w) K n f j p r)
  others_stay adopts = call_stays _ (adopt (head_of w) (offer_of w))
  others_stay closes = let q = close (head_of w) in registers_stays _ (with_closing q.closed q.head w) (closing_stays q.closed q.head)
  others_stay (sets at x) = registers_stays _ w refl
  others_stay (hears k s) =
      either_way Stays (hear (head_of w) k s).refusal
      (heard_registers w block 23 (omega arith) (omega arith) (omega arith) k (said_to (head_of w).seat k s)) refl
  others_stay (hears_batch s room) =
      either_way Stays (batch_refusal s room) (each_registers (deliveries_of s) w block 23 (omega arith) (omega arith) (omega arith)) refl

-- so after each call the block is the record that the call by value makes
module _ (w : List ℕ) (block : IsBlock w) where
  call_head : (b : Registers) (a : Answer) → head_of (without_offer a.refusal (with_registers b (with_answer w a))) ≡ head_of (with_answer w a)
  call_head b a = ended_apart a.refusal (with_registers b (with_answer w a)) ∙ head_apart b (with_answer w a)

  pub head_started : (K : Family) (n f i : ℕ) (v : ℤ) → head_of (block_after w (starts K n f i v)) ≡ (start (head_of w) K n f i v).head
  unfolding block_after
  head_started K n f i v = call_head _ (start (head_of w) K n f i v) ∙ after_start w block K n f i v

  pub head_restarted : (K : Family) (n f i p r : ℕ) → head_of (block_after w (restarts K n f i p r)) ≡ (restart (head_of w) K n f i p r).head
  unfolding block_after
  head_restarted K n f i p r = call_head _ (restart (head_of w) K n f i p r) ∙ after_restart w block K n f i p r

  pub listener_started : (K : Family) (n f i : ℕ) → head_of (block_after w (starts_listener K n f i)) ≡ (start_listener (head_of w) K n f i).head
  unfolding block_after
  listener_started K n f i = call_head _ (start_listener (head_of w) K n f i) ∙ after_start_listener w block K n f i

  pub listener_restarted : (K : Family) (n f i p r : ℕ) → head_of (block_after w (restarts_listener K n f i p r)) ≡ (restart_listener (head_of w) K n f i p r).head
  unfolding block_after
  listener_restarted K n f i p r = call_head _ (restart_listener (head_of w) K n f i p r) ∙ after_restart_listener w block K n f i p r

  pub head_closed : ProperHead (head_of w) → head_of (block_after w closes) ≡ (close (head_of w)).head
  unfolding block_after
  head_closed P = head_apart _ _ ∙ after_close w block P

  pub head_adopted : ProperHead (head_of w) → head_of (block_after w adopts) ≡ (adopt (head_of w) (offer_of w)).head
  unfolding block_after
  head_adopted P = call_head _ (adopt (head_of w) (offer_of w)) ∙ after_adopt w block P

  pub head_set : (at x : ℕ) → head_of (block_after w (sets at x)) ≡ head_of w
  unfolding block_after
  head_set at x = head_apart _ w
