-- The blocks that calls make: each call does to the block what the call by value does to its record and to the offer beside it.
use Rattle.std.specs.Prelude.{None, Some}
use mathlib.Core.Path.{◌≡◌, refl, ap, sym, ◌∙◌}
use mathlib.Core.Logic.{◌≢◌}
use mathlib.Core.Bool.{Bool, true, false, cond}
use mathlib.Core.List.{List, [], ◌∷◌}
use Prim.Native.Nat.{ℕ, zero, suc, ◌+◌}
use native.Mathlib.Omega.{arith}
use lib.ListN.{length, take, drop}
use Rattle.frame_spec.specs.Proper.{AllBytes}
use Rattle.frame_spec.proofs.FieldByField.{drop_bytes}
use Rattle.head_spec.specs.Kept.{LastKept, Offer}
use Rattle.head_spec.specs.declared.Head.{Head}
use Rattle.head_spec.specs.declared.Answer.{Answer}
use Rattle.head_spec.specs.declared.Closed.{Closed}
use Rattle.head_spec.specs.declared.Closing.{Closing}
use Rattle.head_spec.specs.Calls.{answer, start_refusal, start, restart_refusal, restart, start_listener_refusal, start_listener, restart_listener_refusal, restart_listener, Delivery, hear_each, answers_to, close, adopt}
use Rattle.head_spec.specs.Batch.{frame_length, is_whole, first_entry, behind_first, cut_into, deliveries_of, batch_refusal}
use Rattle.head_spec.specs.Offers.{lapsed, lapsed_by, offered, then_adopt, Offering}
use Rattle.head_spec.specs.Offers as offering
use Rattle.head_spec.proofs.Proper.{ProperHead}
use Rattle.head_spec.proofs.Demand2.{demand_2}
use Rattle.head_spec.proofs.Offers.{offer_then_adopt, offer_holds, offering_reached}
use Rattle.head_c.proofs.Lapsing.{heard_block', offer_each}
use Rattle.head_spec.proofs.Stops.{adopts_nothing}
use Rattle.head_spec.proofs.RoundClose.{offer_stays}
use Rattle.head_window.specs.Window.{closed_registers, adopted_registers}
use Rattle.head_c.specs.Blocks.{IsBlock, head_of, registers_of, offer_of, heard_each}
use Rattle.head_c.specs.Events.{Call, starts, restarts, starts_listener, restarts_listener, hears, hears_batch, closes, adopts, sets, number_after, block_after}
use Rattle.head_c.specs.Made.{Opens, Bytes, MadeReachable, MadeOffers, MadeCloses}
use Rattle.head_c.specs.Made as made
use Rattle.head_c.proofs.Hearing.{head_heard}
use Rattle.head_c.proofs.Registers.{either_way}
use Rattle.head_c.proofs.Events.{offer_after_lem, only_these_change, head_started, head_restarted, listener_started, listener_restarted, head_closed, head_adopted, head_set}

-- a block whose record and offer these are
abbrev Holds : List ℕ → Type 0
Holds w = (x : LastKept) × Offering (head_of w) (offer_of w) x

moved : {h h' : Head} {o o' : Offer} → h' ≡ h → o' ≡ o → (x : LastKept) × Offering h o x → (x : LastKept) × Offering h' o' x
moved p q H = rw (p, q) H

proper_of : {h : Head} {o : Offer} → (x : LastKept) × Offering h o x → ProperHead h
proper_of {h} {o} H = demand_2.proper h (offering_reached h o H.0 H.1).0

-- ---- starts and restarts: taken, the record is new; refused, all is as it was

left : (c : ℕ) (new old : Head) (o : Offer) → ((answer c new old).refusal ≢ 0 → (x : LastKept) × Offering old o x) → (c ≡ 0 → Offering new None None)
    → (x : LastKept) × Offering (answer c new old).head (lapsed (answer c new old).refusal o) x
left zero new old o H N = (None, N refl)
left (suc c) new old o H N = H (λ e. omega arith)

module _ (w : List ℕ) (block : IsBlock w) where
  abbrev h : Head
  h = head_of w

  opening_holds : (c : Call) → Opens c → (number_after w c ≢ 0 → Holds w) → Holds (block_after w c)
  unfolding block_after start restart start_listener restart_listener
  opening_holds (starts K n f i v) o H =
      moved (head_started w block K n f i v) (offer_after_lem w block _ (start h K n f i v))
      (left (start_refusal K n f i v) _ h (offer_of w) H (offering.starts K n f i v))
  opening_holds (restarts K n f i p r) o H =
      moved (head_restarted w block K n f i p r) (offer_after_lem w block _ (restart h K n f i p r))
      (left (restart_refusal K n f i p r) _ h (offer_of w) H (offering.restarts K n f i p r))
  opening_holds (starts_listener K n f i) o H =
      moved (listener_started w block K n f i) (offer_after_lem w block _ (start_listener h K n f i))
      (left (start_listener_refusal K n f i) _ h (offer_of w) H (offering.listens K n f i))
  opening_holds (restarts_listener K n f i p r) o H =
      moved (listener_restarted w block K n f i p r) (offer_after_lem w block _ (restart_listener h K n f i p r))
      (left (restart_listener_refusal K n f i p r) _ h (offer_of w) H (offering.listens_again K n f i p r))
  opening_holds (hears k s) o H = absurd o
  opening_holds (hears_batch s room) o H = absurd o
  opening_holds closes o H = absurd o
  opening_holds adopts o H = absurd o
  opening_holds (sets at x) o H = absurd o

-- ---- hearing many

take_bytes : (n : ℕ) (s : List ℕ) → AllBytes s → AllBytes (take n s)
take_bytes zero s B i = omega arith
take_bytes (suc n) [] B i = omega arith
take_bytes (suc n) (x ∷ xs) B zero = B 0
take_bytes (suc n) (x ∷ xs) B (suc i) = take_bytes n xs (λ j. B (suc j)) i

abbrev AllOf : List Delivery → Type 0
AllOf [] = Unit {0}
AllOf (d ∷ D) = AllBytes d.bytes × AllOf D

cut_bytes : (m : ℕ) (s : List ℕ) → AllBytes s → AllOf (cut_into m s)
unfolding cut_into
cut_bytes zero s B = tt
cut_bytes (suc m) s B = go (is_whole s) (cut_bytes m (behind_first s) (drop_bytes s (1 + frame_length s) B))
  where
    go : (b : Bool) → AllOf (cut_into m (behind_first s)) → AllOf (cond b (first_entry s ∷ cut_into m (behind_first s)) [])
    go true A = (take_bytes (frame_length s) (drop 1 s) (drop_bytes s 1 B), A)
    go false A = tt

each_offers : (D : List Delivery) (h : Head) (o : Offer) (x : LastKept) → AllOf D → Offering h o x → Offering (hear_each h D) (lapsed_by (answers_to h D) o) x
unfolding hear_each answers_to lapsed_by
each_offers [] h o x A O = O
each_offers (d ∷ D) h o x A O = each_offers D _ _ x A.1 (offering.hears d.link d.bytes A.0 O)

head_each : (D : List Delivery) (w : List ℕ) → IsBlock w → head_of (heard_each w D) ≡ hear_each (head_of w) D
unfolding heard_each hear_each
head_each [] w block = refl
head_each (d ∷ D) w block = head_each D _ (heard_block' w block d.link d.bytes) ∙ ap (λ (y : Head). hear_each y D) (head_heard w block d.link d.bytes)

-- ---- any call

module _ (w : List ℕ) (block : IsBlock w) (H : Holds w) where
  abbrev g : Head
  g = head_of w

  abbrev P : ProperHead g
  P = proper_of H

  adopts_holds : (o : Offer) → (x : LastKept) × Offering g o x → (x : LastKept) × Offering (adopt g o).head (lapsed (adopt g o).refusal o) x
  adopts_holds None K = moved (ap (λ (a : Answer). a.head) (adopts_nothing g)) (ap (λ (a : Answer). lapsed a.refusal None) (adopts_nothing g)) K
  adopts_holds (Some k) K =
      (Some k, rw (offer_holds g k K.0 K.1).1 (offering.adopts K.1))

  called_holds : (c : Call) → Bytes c → Holds (block_after w c)
  unfolding block_after
  called_holds (starts K n f i v) B = opening_holds w block (starts K n f i v) tt (λ d. H)
  called_holds (restarts K n f i p r) B = opening_holds w block (restarts K n f i p r) tt (λ d. H)
  called_holds (starts_listener K n f i) B = opening_holds w block (starts_listener K n f i) tt (λ d. H)
  called_holds (restarts_listener K n f i p r) B = opening_holds w block (restarts_listener K n f i p r) tt (λ d. H)
  called_holds (hears k s) B = moved (head_heard w block k s) ((only_these_change w (hears k s) block).1 P) (H.0, offering.hears k s B H.1)
  called_holds (hears_batch s room) B =
      let D = deliveries_of s in
      either_way Holds (batch_refusal s room)
      (moved (head_each D w block) (offer_each D w block P.seat.size.most) (H.0, each_offers D g (offer_of w) H.0 (cut_bytes (length s) s B) H.1)) H
  called_holds closes B = moved (head_closed w block P) ((only_these_change w closes block).1 P) (H.0, offering.closes H.1)
  called_holds adopts B = moved (head_adopted w block P) ((only_these_change w adopts block).1 P) (adopts_holds (offer_of w) H)
  called_holds (sets at x) B = moved (head_set w block at x) ((only_these_change w (sets at x) block).1 P) H

pub made_offers : MadeOffers
made_offers w (made.opens v c block o e) = opening_holds v block c o (λ d. absurd (d e))
made_offers w (made.calls v c block B M) = called_holds v block (made_offers v M) c B

pub made_reachable : MadeReachable
made_reachable w M = let H = made_offers w M in (offering_reached (head_of w) (offer_of w) H.0 H.1).0

-- ---- closing and adopting

pub made_closes : MadeCloses
made_closes w k M block block₁ e =
    let H = made_offers w M in
    let Q = proper_of H in
    let w₁ = block_after w closes in
    let H₁ = made_offers w₁ (made.calls w closes block tt M) in
    let head₁ : head_of w₁ ≡ head_of w = head_closed w block Q ∙ offer_stays (head_of w) e in
    let offer₁ : offer_of w₁ ≡ Some k = (only_these_change w closes block).1 Q ∙ ap (λ (c : Closed). offered c (offer_of w)) e in
    let O : Offering (head_of w) (Some k) H₁.0 = rw (head₁, offer₁) at H₁.1 in
    let (ends, adopted) = offer_holds (head_of w) k H₁.0 O in
    let stays : (close (head_of w)).head ≡ head_of w = offer_stays (head_of w) e in
    let number : number_after w₁ adopts ≡ 0 = (λ t. (adopt (head₁ t) (offer₁ t)).refusal) ∙ adopted in
    let registers₁ : registers_of w₁ ≡ registers_of w = (only_these_change w closes block).0 ∙ ap (λ (c : Closed). closed_registers c (registers_of w)) e in
    record {
      taken = number;
      head =
          head_adopted w₁ block₁ (proper_of H₁)
          ∙ (λ t. (adopt (head₁ t) (offer₁ t)).head)
          ∙ sym (λ t. (then_adopt (e t) (stays t)).head)
          ∙ ap (λ (c : Closing). c.head) (offer_then_adopt (head_of w));
      closed = ap (λ (c : Closing). c.closed) ends;
      registers = (only_these_change w₁ adopts block₁).0 ∙ (λ t. adopted_registers (number t) (registers₁ t));
      offer = (only_these_change w₁ adopts block₁).1 (proper_of H₁) ∙ ap (λ (c : ℕ). lapsed c (offer_of w₁)) number;
    }
