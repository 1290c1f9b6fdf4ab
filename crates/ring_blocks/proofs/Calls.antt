-- What calls in a round make of a block: its record hears what they bring, an offer that stands beside it is what the round settles
-- (`Held`), and the call that ends the round makes of the record what ring_spec's rounds do.
use Rattle.std.specs.Prelude.{None, Some, Ok, Err}
use mathlib.Core.Path.{◌≡◌, refl, ap, sym, ◌∙◌}
use mathlib.Core.Bool.{Bool, true, false, cond, true≢false}
use mathlib.Core.Logic.{◌⊎◌, inl, inr}
use mathlib.Core.List.{List, [], ◌∷◌}
use Prim.Native.Nat.{ℕ, zero, suc}
use native.Mathlib.Omega.{arith}
use Rattle.terms.specs.Refusals as refusal
use Rattle.terms.specs.Refusals.{leaves}
use Rattle.settle_midpoint.specs.declared.Kept.{Kept}
use Rattle.settle_midpoint.specs.Settled.{Settled}
use Rattle.head_spec.specs.declared.Seat.{Seat}
use Rattle.head_spec.specs.declared.Head.{Head}
use Rattle.head_spec.specs.declared.Answer.{Answer}
use Rattle.head_spec.specs.declared.Closed.{Closed}
use Rattle.head_spec.specs.declared.Closing.{Closing}
use Rattle.head_spec.specs.Kept.{Offer}
use Rattle.head_spec.specs.Calls.{answer, hear_refusal, said_to, taken, hear, Delivery, hear_each, answers_to, closing, settling_of, offer_settled, close_in, is_last_round, end_round, close, adopt}
use Rattle.head_spec.specs.Batch.{deliveries_of, batch_refusal, hear_batch}
use Rattle.head_spec.specs.Offers.{lapsed, lapsed_by, offered, then_adopt}
use Rattle.head_spec.proofs.Proper.{ProperHead}
use Rattle.head_spec.proofs.Hearing.{each_keep, proper_each}
use Rattle.head_spec.proofs.Offers.{offer_then_adopt}
use Rattle.head_spec.proofs.RoundEnd.{ends_collection}
use Rattle.head_spec.proofs.RoundClose.{closes_collection, Stands, Closes, closes}
use Rattle.head_spec.proofs.Stops.{adopts_nothing, adopts_offer}
use Rattle.head_c.specs.Blocks.{IsBlock, head_of, offer_of, heard_in, heard_each}
use Rattle.head_c.specs.Events as call
use Rattle.head_c.specs.Events.{number_after, block_after}
use Rattle.head_c.proofs.Hearing.{head_heard}
use Rattle.head_c.proofs.Registers.{heard_block_lem}
use Rattle.head_c.proofs.Events.{only_these_change, head_closed, head_adopted, head_set}
use Rattle.ring_spec.specs.Rounds.{round_ended}
use Rattle.ring_spec.specs.Recovery.{IsClosed}
use Rattle.ring_spec.proofs.Recovery.{closed_as, listed_closed}
use Rattle.ring_devices.specs.Devices as device
use Rattle.ring_devices.specs.Devices.{HearCall, heard_by, brought_by}
use Rattle.ring_devices.proofs.Heard.{heard_by_lem}
use Rattle.ring_blocks.specs.Blocks as block
use Rattle.ring_blocks.specs.Blocks.{BlockCall, call_of, block_by, hearings, NoneCloses, end_call, EndsBy, HearingsStep}
use Rattle.ring_blocks.proofs.Kept.{block_after_lem}

-- ---- what C's functions that hear leave

pub hearings_step : HearingsStep
unfolding block_after
hearings_step =
    record {
      one = λ w k s r w' H. H.block ∙ ap (λ (c : ℕ). leaves c (heard_in w k (said_to (head_of w).seat k s)) w) H.refusal;
      batch = λ w s a c r w' a' c' H. H.block ∙ ap (λ (x : ℕ). leaves x (heard_each w (deliveries_of s)) w) H.refusal;
    }

-- ---- the record hears

head_each : (D : List Delivery) (b : List ℕ) → IsBlock b → head_of (heard_each b D) ≡ hear_each (head_of b) D
unfolding heard_each hear_each
head_each [] b whole = refl
head_each (d ∷ D) b whole =
    head_each D _ (go (hear (head_of b) d.link d.bytes).refusal)
    ∙ ap (λ (y : Head). hear_each y D) (head_heard b whole d.link d.bytes)
  where
    go : (c : ℕ) → IsBlock (leaves c (heard_in b d.link (said_to (head_of b).seat d.link d.bytes)) b)
    go zero = heard_block_lem b whole d.link _
    go (suc c) = whole

-- closing the last round of a phase leaves the record
pub close_stays : (h : Head) → is_last_round h.seat ≡ true → (close h).head ≡ h
unfolding close
close_stays h e = go h.seat.ended (is_last_round h.seat) e
  where
    settled : (s : Settled) → (offer_settled s h).head ≡ h
    settled (Err c) = refl
    settled (Ok k) = refl

    go : (b r : Bool) → r ≡ true → (cond b (closing (Closed.Refused refusal.run_has_ended) h) (close_in r h)).head ≡ h
    go true r q = refl
    go false true q = settled (settling_of h)
    go false false q = absurd (true≢false (sym q))

-- ---- an offer that stands is what the round settles

abbrev pub Held : Head → Offer → Type 0
Held h o = (o ≡ None) ⊎ ((k : Kept) × (o ≡ Some k) × Stands h k)

held_hear : (h : Head) (o : Offer) (k : ℕ) (s : List ℕ) → Held h o → Held (hear h k s).head (lapsed (hear h k s).refusal o)
unfolding hear
held_hear h o k s H = go (hear_refusal h k s)
  where
    go : (c : ℕ) → let a = answer c (taken h k (said_to h.seat k s)) h in Held a.head (lapsed a.refusal o)
    go zero = inl refl
    go (suc c) = H

held_each : (D : List Delivery) (h : Head) (o : Offer) → Held h o → Held (hear_each h D) (lapsed_by (answers_to h D) o)
unfolding hear_each answers_to lapsed_by
held_each [] h o H = H
held_each (d ∷ D) h o H = held_each D _ _ (held_hear h o d.link d.bytes H)

held_close : (h : Head) (o : Offer) → is_last_round h.seat ≡ true → Held h o → Held (close h).head (offered (close h).closed o)
unfolding close
held_close h o e H = go h.seat.ended (is_last_round h.seat) e (closes h)
  where
    settled : (s : Settled) → let a = offer_settled s h in Closes a.closed h a.head → Held a.head (offered a.closed o)
    settled (Err c) z = H
    settled (Ok k) z = inr (k, refl, z.1)

    go : (b r : Bool) → r ≡ true → let a = cond b (closing (Closed.Refused refusal.run_has_ended) h) (close_in r h) in
        Closes a.closed h a.head → Held a.head (offered a.closed o)
    go true r q z = H
    go false true q z = settled (settling_of h) z
    go false false q z = absurd (true≢false (sym q))

-- in a collection round none stands
none_held : (h : Head) (o : Offer) → is_last_round h.seat ≡ false → Held h o → o ≡ None
none_held h o e (inl q) = q
none_held h o e (inr (k, q, S)) =
    let x : Closed.Listed ≡ Closed.Settled k = ap (λ (c : Closing). c.closed) (sym (ends_collection h S.runs e) ∙ S.ends) in
    let z : ◌≡◌ {A = ℕ} 0 1 = cc in
    absurd (omega arith)

-- ---- calls in a round

-- a record that runs, in a round that is the last of its phase or not
pub record InRound (last : Bool) (h : Head) : Type 0 where
  pub proper : ProperHead h
  pub now : is_last_round h.seat ≡ last
  pub runs : h.seat.ended ≡ false

pub stays_in : {last : Bool} {h : Head} (C : List HearCall) → InRound last h → InRound last (heard_by h C)
stays_in {last} {h} C I =
    let x = each_keep (brought_by C) h in
    rw (heard_by_lem C h)
    (record {
      proper = proper_each (brought_by C) h I.proper;
      now = ap is_last_round x ∙ I.now;
      runs = ap (λ (y : Seat). y.ended) x
          ∙ I.runs;
    })

-- what a call leaves: the record has heard what it brings, and an offer is held
record Left (b b' : List ℕ) (C : List HearCall) : Type 0 where
  head : head_of b' ≡ heard_by (head_of b) C
  offer : Held (head_of b') (offer_of b')

module _ (b : List ℕ) (whole : IsBlock b) {last : Bool} (I : InRound last (head_of b)) (H : Held (head_of b) (offer_of b)) where
  abbrev h : Head
  h = head_of b

  abbrev change : (c : call.Call) → offer_of (block_after b c) ≡ call.offer_after b c
  change c = (only_these_change b c whole).1 I.proper

  moved : {g g' : Head} {o o' : Offer} → g ≡ g' → o ≡ o' → Held g' o' → Held g o
  moved p q z = rw (p, q) z

  step : (c : BlockCall) → (last ≡ false → NoneCloses (c ∷ [])) → Left b (block_after b (call_of c)) (hearings (c ∷ []))
  unfolding heard_by hearings block_after hear_batch
  step (block.heard (device.hears_one k s)) ok =
      record {
        head = head_heard b whole k s;
        offer = moved (head_heard b whole k s) (change (call.hears k s))
            (held_hear h (offer_of b) k s H);
      }
  step (block.heard (device.hears_batch s room)) ok =
      let (p, q) = go (batch_refusal s room) (change (call.hears_batch s room)) in
      record { head = p; offer = q }
    where
      go : (c : ℕ) → let b' = leaves c (heard_each b (deliveries_of s)) b in
          offer_of b' ≡ leaves c (lapsed_by (answers_to h (deliveries_of s)) (offer_of b)) (offer_of b)
          → let h' = (answer c (hear_each h (deliveries_of s)) h).head in (head_of b' ≡ h') × Held (head_of b') (offer_of b')
      go zero q = (head_each (deliveries_of s) b whole, moved (head_each (deliveries_of s) b whole) q (held_each (deliveries_of s) h (offer_of b) H))
      go (suc c) q = (refl, H)
  step (block.wrote at x) ok = record { head = head_set b whole at x; offer = moved (head_set b whole at x) (change (call.sets at x)) H }
  step block.offered ok = go last refl
    where
      go : (r : Bool) → last ≡ r → Left b (block_after b call.closes) []
      go true e =
          let now = I.now ∙ e in
          let stays = head_closed b whole I.proper in
          record { head = stays ∙ close_stays h now; offer = moved stays (change call.closes) (held_close h (offer_of b) now H) }
      go false e = absurd (ok e)

-- and many
pub calls_left : (C : List BlockCall) (b : List ℕ) → IsBlock b → {last : Bool} → InRound last (head_of b) → Held (head_of b) (offer_of b)
    → (last ≡ false → NoneCloses C)
    → IsBlock (block_by b C) × (head_of (block_by b C) ≡ heard_by (head_of b) (hearings C)) × Held (head_of (block_by b C)) (offer_of (block_by b C))
unfolding block_by heard_by hearings
calls_left [] b whole I H ok = (whole, refl, H)
calls_left (c ∷ C) b whole {last} I H ok =
    let L = step b whole I H c (λ e. first c C (ok e)) in
    let J = stays_in (hearings (c ∷ [])) I in
    let (x, y, z) = calls_left C (block_after b (call_of c)) (block_after_lem b whole (call_of c)) (rw L.head J) L.offer
    (λ e. others c C (ok e)) in
    (x, y ∙ ap (λ (g : Head). heard_by g (hearings C)) L.head ∙ heard_first c C (head_of b), z)
  where
    first : (c : BlockCall) (C : List BlockCall) → NoneCloses (c ∷ C) → NoneCloses (c ∷ [])
    first (block.heard x) C z = tt
    first (block.wrote at x) C z = tt
    first block.offered C z = z

    others : (c : BlockCall) (C : List BlockCall) → NoneCloses (c ∷ C) → NoneCloses C
    others (block.heard x) C z = z
    others (block.wrote at x) C z = z
    others block.offered C z = absurd z

    heard_first : (c : BlockCall) (C : List BlockCall) (g : Head)
        → heard_by (heard_by g (hearings (c ∷ []))) (hearings C) ≡ heard_by g (hearings (c ∷ C))
    heard_first (block.heard (device.hears_one k s)) C g = refl
    heard_first (block.heard (device.hears_batch s room)) C g = refl
    heard_first (block.wrote at x) C g = refl
    heard_first block.offered C g = refl

-- ---- the call that ends the round

module _ (b : List ℕ) (whole : IsBlock b) (H : Held (head_of b) (offer_of b)) where
  abbrev T : Head
  T = head_of b

  ended_as : round_ended T ≡ (end_round T).head
  ended_as = ap (λ (c : Closing). c.head) (offer_then_adopt T)

  -- a collection round is closed, and no offer stands
  pub ends_collecting : InRound false T
      → (head_of (block_after b call.closes) ≡ round_ended T) × (offer_of (block_after b call.closes) ≡ None)
  ends_collecting I =
      let e : (close T).closed ≡ Closed.Listed = ap (λ (c : Closing). c.closed) (closes_collection T I.runs I.now) in (
        head_closed b whole I.proper ∙ sym (ap (λ (c : Closed). (then_adopt c (close T).head).head) e),
        (only_these_change b call.closes whole).1 I.proper ∙ ap (λ (c : Closed). offered c (offer_of b)) e
            ∙ none_held T (offer_of b) I.now H,
      )

  -- an adoption that is not refused ends the phase
  pub ends_adopting : InRound true T → number_after b call.adopts ≡ 0
      → (head_of (block_after b call.adopts) ≡ round_ended T) × (offer_of (block_after b call.adopts) ≡ None)
  ends_adopting I e = go H
    where
      ended : offer_of (block_after b call.adopts) ≡ None
      ended = (only_these_change b call.adopts whole).1 I.proper ∙ ap (λ (c : ℕ). lapsed c (offer_of b)) e

      go : Held T (offer_of b) → (head_of (block_after b call.adopts) ≡ round_ended T) × (offer_of (block_after b call.adopts) ≡ None)
      go (inl q) =
          let x : refusal.no_offer ≡ 0 = sym (ap (λ (a : Answer). a.refusal) (adopts_nothing T))
          ∙ ap (λ (o : Offer). (adopt T o).refusal) (sym q) ∙ e in
          absurd (omega arith)
      go (inr (k, q, S)) = (
        head_adopted b whole I.proper
            ∙ ap (λ (o : Offer). (adopt T o).head) q
            ∙ ap (λ (a : Answer). a.head) (adopts_offer T k S.runs)
            ∙ sym (ap (λ (c : Closing). c.head) S.ends)
            ∙ sym ended_as,
        ended,
      )

  -- after a closing that offers, adopting is not refused
  pub adopts_then : InRound true T → {k : Kept} → (close T).closed ≡ Closed.Settled k
      → number_after (block_after b call.closes) call.adopts ≡ 0
  adopts_then I {k} e =
      let head₁ : head_of (block_after b call.closes) ≡ T = head_closed b whole I.proper ∙ close_stays T I.now in
      let offer₁ : offer_of (block_after b call.closes) ≡ Some k =
      (only_these_change b call.closes whole).1 I.proper ∙ ap (λ (c : Closed). offered c (offer_of b)) e in
      (λ x. (adopt (head₁ x) (offer₁ x)).refusal) ∙ ap (λ (a : Answer). a.refusal) (adopts_offer T k I.runs)

-- ---- a round

module _ (b : List ℕ) (whole : IsBlock b) (none : offer_of b ≡ None) (C : List BlockCall) where
  abbrev b' : List ℕ
  b' = block_by b C

  -- the record hears what the calls bring, and ends the round
  pub round_ends : (last : Bool) → InRound last (head_of b) → EndsBy last b C → let e = block_after b' (end_call last) in
      (head_of e ≡ round_ended (heard_by (head_of b) (hearings C))) × (offer_of e ≡ None)
  round_ends false I E =
      let (x, y, z) = calls_left C b whole I (inl none) (λ e. E) in
      let (p, q) = ends_collecting b' x z (rw y (stays_in (hearings C) I)) in
      (p ∙ ap round_ended y, q)
  round_ends true I E =
      let (x, y, z) = calls_left C b whole I (inl none) (λ e. absurd (true≢false e)) in
      let (p, q) = ends_adopting b' x z (rw y (stays_in (hearings C) I)) E in
      (p ∙ ap round_ended y, q)

  -- and its closing is not refused
  pub round_closes : (last : Bool) → InRound last (head_of b) → EndsBy last b C → IsClosed (close (heard_by (head_of b) (hearings C))).closed
  round_closes false I E = let J = stays_in (hearings C) I in listed_closed (heard_by (head_of b) (hearings C)) J.runs J.now
  round_closes true I E =
      let (x, y, z) = calls_left C b whole I (inl none) (λ e. absurd (true≢false e)) in
      rw (← y) (go (offer_of b') refl z)
    where
      go : (o : Offer) → offer_of b' ≡ o → Held (head_of b') o → IsClosed (close (head_of b')).closed
      go o q (inl e) =
          let x : refusal.no_offer ≡ 0 = sym (ap (λ (a : Answer). a.refusal) (adopts_nothing (head_of b')))
          ∙ ap (λ (p : Offer). (adopt (head_of b') p).refusal) (sym (q ∙ e)) ∙ E in
          absurd (omega arith)
      go o q (inr (k, e, S)) =
          let z : (close (head_of b')).closed ≡ Closed.Settled k = closed_as (head_of b') ∙ ap (λ (c : Closing). c.closed) S.ends in
          rw z tt
