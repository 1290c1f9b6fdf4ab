-- Cables that carry. A frame that an unmarked head writes is acceptable to every unmarked device (`frames_taken`); so the first acceptable
-- one on its link is that frame, if no other is acceptable there. Hearing changes nothing of what a head has to say.
use Rattle.std.specs.Prelude.{None, Ok, Err}
use mathlib.Core.Path.{◌≡◌, refl, ap, sym, ◌∙◌}
use mathlib.Core.Bool.{Bool, true, false, cond, ◌&&◌, true≢false}
use mathlib.Core.List.{List, [], ◌∷◌, ◌++◌}
use mathlib.Core.Logic.{◌⊎◌, inl, inr, by_cases}
use Prim.Native.Nat.{ℕ, zero, suc, ◌≤◌, ◌<◌}
use native.Mathlib.Omega.{arith}
use native.Mathlib.Decide.{ℕ_discrete}
use borrow.Author.Tests.{eqb-true, eqb-false, le-leb, lt-leb}
use lib.Dec.{eqb}
use lib.ListN.{length, take, drop}
use lib.Seq.{take-append_seam}
use lib.IntN.{ℤ}
use Rattle.terms.specs.Refusals as refusal
use Rattle.terms.specs.declared.Family.{Family}
use Rattle.terms.specs.Sizes.{is_listener}
use Rattle.marks.specs.Marks.{bit_of}
use Rattle.frame_spec.specs.Said.{Meaning, refused, collected, listed, confessed, said}
use Rattle.frame_spec.specs.Proper.{AcceptedMeaning}
use Rattle.frame_spec.proofs.Accepting.{accepted}
use Rattle.frame_spec.specs.Written.{frame_of, fits_in, written, buffered}
use Rattle.frame_spec.proofs.OneMeaning.{said_round}
use Rattle.head_spec.specs.declared.Seat.{Seat}
use Rattle.head_spec.specs.declared.Head.{Head}
use Rattle.head_spec.specs.Calls.{said_to, hear, taken, Delivery, hear_each, spoken_in, spoken, frame_for, write_answer, write_buffer}
use Rattle.head_spec.proofs.Proper.{rounds_few}
use Rattle.head_spec.proofs.Taking.{hear_cases, hear_keeps}
use Rattle.head_spec.proofs.Hearing.{each_keep}
use Rattle.head_spec.proofs.Speaking.{spoken_reads_back}
use Rattle.ring_spec.specs.Rounds.{Ring, most_rounds}
use Rattle.ring_devices.specs.Devices.{HearCall, heard_by, brought_by, is_accepted, first_frame, DeviceRound, opened_by, Carries, devices_after, DevicesWithin}
use Rattle.ring_devices.specs.Cables.{Comes, Alone, Brings, each_once, plainly, OnePlace, AnyRun, CablesCarry, CableThere}
use Rattle.ring_devices.proofs.Heard.{heard_by_lem}
use Rattle.ring_devices.proofs.Planting.{head_receives}
use Rattle.ring_devices.proofs.OneRound.{speaks}
use Rattle.ring_devices.proofs.Devices.{frames_taken, opens_fresh}

-- ---- the first acceptable one

module _ (x : Seat) (k : ℕ) (s : List ℕ) (good : is_accepted (said_to x k s) ≡ true) where
  pub first_alone : (D : List Delivery) → Comes k s D → Alone x k s D → first_frame x k D ≡ s
  unfolding first_frame
  first_alone [] c a = absurd c
  first_alone (d ∷ D) c a = go (eqb d.link k) (is_accepted (said_to x k d.bytes)) refl refl c (λ z. first_alone D z a.1)
    where
      go : (b e : Bool) → eqb d.link k ≡ b → is_accepted (said_to x k d.bytes) ≡ e → ((d.link ≡ k) × (d.bytes ≡ s)) ⊎ Comes k s D
          → (Comes k s D → first_frame x k D ≡ s) → cond (b && e) d.bytes (first_frame x k D) ≡ s
      go true true p q z later = a.0 (eqb-true d.link k p) q
      go true false p q (inl z) later = absurd (true≢false (sym good ∙ ap (λ (t : List ℕ). is_accepted (said_to x k t)) (sym z.1) ∙ q))
      go true false p q (inr z) later = later z
      go false e p q (inl z) later = absurd (eqb-false d.link k p z.0)
      go false e p q (inr z) later = later z

-- ---- a frame's only place

accepted_meaning : (m : Meaning) → is_accepted m ≡ true → AcceptedMeaning m
accepted_meaning (refused c) e = absurd (true≢false (sym e))
accepted_meaning (collected x) e = tt
accepted_meaning (listed t) e = tt
accepted_meaning confessed e = tt

pub one_place : OnePlace
one_place h P n p r k e =
    let s = frame_for h in
    let A = (accepted n p r k s refl (accepted_meaning (said n p r k s) e)).0 in
    let B = (accepted h.seat.n h.seat.phase h.seat.round h.seat.number s (spoken_reads_back h P)
    (accepted_meaning (spoken h) (speaks h))).0 in
    (sym A.of_phase ∙ B.of_phase, sym A.of_round ∙ B.of_round, sym A.sender ∙ B.sender)

pub any_run : AnyRun
any_run h P x n p r =
    (λ t. is_accepted (said (n t) (p t) (r t) h.seat.number (frame_for h))) ∙ ap is_accepted (spoken_reads_back h P) ∙ speaks h

-- each frame once
module _ (g : ℕ → List ℕ) (k : ℕ) where
  pub once_comes : (n : ℕ) → k < n → Comes k (g k) (brought_by (each_once g n))
  unfolding brought_by
  once_comes zero l = absurd (omega arith)
  once_comes (suc n) l = by_cases (ℕ_discrete n k) (λ e. inl (e, ap g e)) (λ d. inr (once_comes n (omega arith)))

  pub once_alone : (x : Seat) (n : ℕ) → Alone x k (g k) (brought_by (each_once g n))
  unfolding brought_by
  once_alone x zero = tt
  once_alone x (suc n) = (λ e q. ap g e, once_alone x n)

-- ---- what a head has to say

-- in a confession round hearing leaves the list
list_kept : (h : Head) (k : ℕ) (s : List ℕ) → h.seat.round ≡ 1 → (hear h k s).head.list ≡ h.list
list_kept h k s r = hear_cases h k s (λ x. x.list ≡ h.list) refl (λ l u m e. go m e)
  where
    go : (m : Meaning) → said_to h.seat k s ≡ m → (taken h k m).list ≡ h.list
    go (refused c) e = refl
    go (collected y) e = let z : 0
        ≡ h.seat.round = said_round h.seat.n h.seat.phase h.seat.round k s e tt in absurd (omega arith)
    go (listed t) e = refl
    go confessed e = refl

lists_kept : (D : List Delivery) (h : Head) → h.seat.round ≡ 1 → (hear_each h D).list ≡ h.list
unfolding hear_each
lists_kept [] h r = refl
lists_kept (d ∷ D) h r =
    lists_kept D _ (ap (λ (x : Seat). x.round) (hear_keeps h d.link d.bytes) ∙ r) ∙ list_kept h d.link d.bytes r

module _ (D : List Delivery) (h : Head) (l : h.seat.round < 2) where
  abbrev T : Head
  T = hear_each h D

  kept : T.seat ≡ h.seat
  kept = each_keep D h

  speaks_same : spoken T ≡ spoken h
  unfolding spoken
  speaks_same = ap (λ (x : Seat). spoken_in x.round T) kept ∙ go h.seat.round refl
    where
      go : (r : ℕ) → h.seat.round ≡ r → spoken_in r T ≡ spoken_in r h
      go zero e = ap (λ (x : Seat). collected (cond x.healed None x.position)) kept
      go (suc r) e = let o : h.seat.round ≡ 1 = omega arith in λ t. cond (kept t).healed confessed (listed (lists_kept D h o t))

  frame_same : frame_for T ≡ frame_for h
  frame_same = λ t. frame_of (kept t).n (kept t).number (kept t).phase (speaks_same t)

-- with room for it, a head that runs writes its frame
writes_frame : (T : Head) (s buffer : List ℕ) → frame_for T ≡ s → T.seat.ended ≡ false → is_listener T.seat.number ≡ false
    → length s ≤ length buffer
    → (write_answer T buffer ≡ Ok (length s)) × (take (length s) (write_buffer T buffer) ≡ s)
unfolding write_answer write_buffer written buffered
writes_frame T s buffer e runs head room =
    go T.seat.ended (is_listener T.seat.number) (fits_in (frame_for T) buffer) (frame_for T) runs head
    (le-leb (length (frame_for T)) (length buffer) (omega (arith, ap length e))) e
  where
    go : (a b c : Bool) (u : List ℕ) → a ≡ false → b ≡ false → c ≡ true → u ≡ s
        → (cond a (Err refusal.run_has_ended)
        (cond b (Err refusal.listener_sends_nothing) (cond c (Ok (length u)) (Err refusal.buffer_too_short)))
        ≡ Ok (length s)) × (take (length s) (cond a buffer (cond b buffer (cond c (u ++ drop (length u) buffer) buffer))) ≡ s)
    go a b c u p q r z = rw (p, q, r, z) (refl, take-append_seam s (drop (length s) buffer))

no_listener : (k : ℕ) → k < 32 → is_listener k ≡ false
unfolding is_listener
no_listener k b = rw (lt-leb 32 k b)

-- ---- after any rounds within the limits

module _ (K : Family) (n m f : ℕ) (v : ℕ → ℤ) (memory : ℕ → Head) (ws : List DeviceRound) (X : DevicesWithin K n m f v memory ws)
    (l : length ws < most_rounds K) where
  abbrev R : Ring
  R = devices_after K n f v memory ws

  brings_carries : (w : DeviceRound) → Brings K n f R w m → Carries K n f R w m
  unfolding Carries
  brings_carries w B i k t q b e =
      let (c, a) = B i k t q b e in
      first_alone (opened_by K n f R i).seat k (frame_for (opened_by K n f R k)) (frames_taken K n m f v memory ws X w l i k t q b e)
      (brought_by (w.calls i)) c a

  abbrev frames : ℕ → List ℕ
  frames k = frame_for (opened_by K n f R k)

  -- an unmarked head writes its frame
  written_by : (w : DeviceRound) (k : ℕ) → k < n → bit_of w.marks k ≡ false → (C : List HearCall) (buffer : List ℕ)
      → length (frames k) ≤ length buffer
      → let T = heard_by (opened_by K n f R k) C in
      (write_answer T buffer ≡ Ok (length (frames k))) × (take (length (frames k)) (write_buffer T buffer) ≡ frames k)
  written_by w k b q C buffer room =
      let h = opened_by K n f R k in
      let D = brought_by C in
      let (F, number, now, family) = opens_fresh K n m f v memory ws X w l k (head_receives n m k b) q in
      let o : is_listener (hear_each h D).seat.number ≡ false =
      ap (λ (x : Seat). is_listener x.number) (each_keep D h) ∙ ap is_listener number ∙ no_listener k (omega (arith, X.most)) in
      let runs : (hear_each h D).seat.ended ≡ false = ap (λ (x : Seat). x.ended) (each_keep D h) ∙ F.runs in
      let two = rounds_few h.seat.family in
      rw (heard_by_lem C h) (writes_frame (hear_each h D) (frame_for h) buffer
      (frame_same D h (omega (arith, F.proper.seat.round))) runs o room)

  cables_carry : CablesCarry K n m f R
  cables_carry =
      record {
        brings = brings_carries;
        plain =
            λ marks left. brings_carries (plainly K n f R marks left)
            (λ i k t q b e. (once_comes frames k n b, once_alone frames k (opened_by K n f R i).seat n));
        writes = written_by;
      }

pub cable_there : CableThere
cable_there = cables_carry
