-- A ring of blocks is a ring of devices: every call on a block does to its record what the call by value does, and so the blocks of all
-- receivers are the records of the devices (`blocks_same`).
use Rattle.std.specs.Prelude.{None}
use mathlib.Core.Path.{◌≡◌, refl, ap, ap₂, sym, ◌∙◌}
use mathlib.Core.Bool.{Bool, true, false, cond}
use mathlib.Core.List.{List, [], ◌∷◌}
use Prim.Native.Nat.{ℕ, zero, suc, ◌≤◌, ◌<◌}
use native.Mathlib.Omega.{arith}
use lib.Dec.{ltb}
use lib.ListN.{length, get_or}
use lib.IntN.{ℤ}
use Rattle.terms.specs.Sizes.{ends_with}
use Rattle.terms.specs.declared.Family.{Family}
use Rattle.marks.specs.Marks.{bit_of}
use Rattle.head_spec.specs.declared.Head.{Head}
use Rattle.head_spec.specs.Kept.{Offer}
use Rattle.head_spec.specs.Calls.{start, restart, start_listener, restart_listener, frame_for, close}
use Rattle.head_spec.specs.Offers.{lapsed}
use Rattle.head_c.specs.Blocks.{IsBlock, head_of, offer_of}
use Rattle.head_c.specs.Events.{starts, restarts, starts_listener, restarts_listener, block_after}
use Rattle.head_c.proofs.Events.{offer_after_lem, head_started, head_restarted, listener_started, listener_restarted}
use Rattle.ring_spec.specs.Rounds.{Ring, round_ended, most_rounds, PhaseEnd, phase_end, is_receiver, all_listeners}
use Rattle.ring_spec.specs.Converges.{no_end}
use Rattle.ring_spec.specs.Recovery.{IsClosed}
use Rattle.ring_devices.specs.Devices.{heard_by, first_frame, brought_by, DeviceRound, device_marks, again, opened_by, closed_by, Carries, after_devices, started_by, devices_after, ends_of_devices, RoundsWithin, DevicesWithin}
use Rattle.ring_devices.proofs.Planting.{head_receives, sound_receives}
use Rattle.ring_devices.specs.Recovery.{EndsIt}
use Rattle.ring_devices.proofs.Devices.{SameRecords, SameEnds, phase_same, same_with, promised_same, devices_converge, starts_taken, Known, known, restarts_known, opens_known}
use Rattle.ring_blocks.specs.Blocks.{BlockCall, call_of, block_by, hearings, end_call, EndsBy, BlockRound, block_marks, BlockRing, again_call, opened_block, closed_block, CarriesTo, RoundWithin, after_blocks, started_block, blocks_after, block_heads, ends_of_blocks, BlocksWithin, BlocksConverge}
use Rattle.ring_blocks.specs.Recovery.{RoundServed}
use Rattle.ring_blocks.proofs.Kept.{block_after_lem}
use Rattle.ring_blocks.proofs.Calls.{InRound, round_ends, round_closes}

abbrev pub as_device : BlockRound → DeviceRound
as_device w = record { marks = w.marks; left = λ i. head_of (w.left i); calls = λ i. hearings (w.calls i) }

-- the blocks of all receivers are the records of the devices; beside one that the round before did not mark no offer stands
pub record SameRing (n m : ℕ) (B : BlockRing) (R : Ring) : Type 0 where
  pub phase : B.phase ≡ R.phase
  pub round : B.round ≡ R.round
  pub before : B.before ≡ R.before
  pub heads : (i : ℕ) → is_receiver n m i ≡ true → head_of (B.blocks i) ≡ R.heads i
  pub blocks : (i : ℕ) → IsBlock (B.blocks i)
  pub offers : (i : ℕ) → is_receiver n m i ≡ true → bit_of R.before i ≡ false → offer_of (B.blocks i) ≡ None

-- ---- one round

-- what is known of an unmarked device as a round opens: its restart is not refused, and its record is in the round r
pub record Opens (K : Family) (n f r : ℕ) (R : Ring) (i : ℕ) : Type 0 where
  pub taken : (again K n f (R.heads i) i R.phase R.round).refusal ≡ 0
  pub inside : InRound (ends_with K r) (opened_by K n f R i)

module _ (K : Family) (n m f : ℕ) (B : BlockRing) (R : Ring) (S : SameRing n m B R) where
  -- the restart of a block
  module _ (i : ℕ) (t : is_receiver n m i ≡ true) where
    abbrev x : List ℕ
    x = B.blocks i

    restart_head : head_of (block_after x (again_call K n f i R.phase R.round)) ≡ (again K n f (R.heads i) i R.phase R.round).head
    restart_head = go (ltb i 32)
      where
        go : (c : Bool) → head_of
            (block_after x (cond c (restarts K n f i R.phase R.round) (restarts_listener K n f i R.phase R.round)))
            ≡ (cond c (restart (R.heads i) K n f i R.phase R.round) (restart_listener (R.heads i) K n f i R.phase R.round)).head
        go true = head_restarted x (S.blocks i) K n f i _ _
            ∙ ap (λ (h : Head). (restart h K n f i R.phase R.round).head) (S.heads i t)
        go false = listener_restarted x (S.blocks i) K n f i _ _
            ∙ ap (λ (h : Head). (restart_listener h K n f i R.phase R.round).head) (S.heads i t)

    restart_ends_offer : (again K n f (R.heads i) i R.phase R.round).refusal ≡ 0
        → offer_of (block_after x (again_call K n f i R.phase R.round)) ≡ None
    unfolding block_after
    restart_ends_offer = go (ltb i 32)
      where
        go : (c : Bool) → (cond c (restart (R.heads i) K n f i R.phase R.round)
            (restart_listener (R.heads i) K n f i R.phase R.round)).refusal ≡ 0
            → offer_of (block_after x (cond c (restarts K n f i R.phase R.round) (restarts_listener K n f i R.phase R.round)))
            ≡ None
        go true e =
            offer_after_lem x (S.blocks i) _ (restart (head_of x) K n f i R.phase R.round)
            ∙ ap (λ (h : Head). lapsed (restart h K n f i R.phase R.round).refusal (offer_of x)) (S.heads i t)
            ∙ ap (λ (c : ℕ). lapsed c (offer_of x)) e
        go false e =
            offer_after_lem x (S.blocks i) _ (restart_listener (head_of x) K n f i R.phase R.round)
            ∙ ap (λ (h : Head). lapsed (restart_listener h K n f i R.phase R.round).refusal (offer_of x)) (S.heads i t)
            ∙ ap (λ (c : ℕ). lapsed c (offer_of x)) e

    pub opened_head : head_of (opened_block K n f B i) ≡ opened_by K n f R i
    unfolding opened_block opened_by
    opened_head = rw (S.before, S.phase, S.round) (go (bit_of R.before i))
      where
        go : (b : Bool) → head_of (cond b (block_after x (again_call K n f i R.phase R.round)) x)
            ≡ cond b (again K n f (R.heads i) i R.phase R.round).head (R.heads i)
        go true = restart_head
        go false = S.heads i t

    pub opened_offer : (again K n f (R.heads i) i R.phase R.round).refusal ≡ 0 → offer_of (opened_block K n f B i) ≡ None
    unfolding opened_block
    opened_offer taken = rw (S.before, S.phase, S.round) (go (bit_of R.before i) refl)
      where
        go : (b : Bool) → bit_of R.before i ≡ b
            → offer_of (cond b (block_after x (again_call K n f i R.phase R.round)) x) ≡ None
        go true e = restart_ends_offer taken
        go false e = S.offers i t e

  pub opened_is_block : (i : ℕ) → IsBlock (opened_block K n f B i)
  unfolding opened_block
  opened_is_block i = go (bit_of B.before i)
    where
      go : (b : Bool) → IsBlock (cond b (block_after (B.blocks i) (again_call K n f i B.phase B.round)) (B.blocks i))
      go true = block_after_lem (B.blocks i) (S.blocks i) _
      go false = S.blocks i

  pub carries_as : (w : BlockRound) → CarriesTo K n f B w m → Carries K n f R (as_device w) m
  unfolding Carries
  carries_as w C i k t q b e =
      sym (ap (λ (h : Head). first_frame h.seat k (brought_by (hearings (w.calls i)))) (opened_head i t))
      ∙ C i k t q b e
      ∙ ap frame_for (opened_head k (head_receives n m k b))

  module _ (w : BlockRound) (i : ℕ) (t : is_receiver n m i ≡ true) where
    abbrev opened : List ℕ
    opened = opened_block K n f B i

    -- a device that is not marked ends the round
    ends_round : Opens K n f B.round R i → EndsBy (ends_with K B.round) opened (w.calls i) → bit_of w.marks i ≡ false
        → (head_of (closed_block K n f B w i) ≡ closed_by K n f R (as_device w) i) × (offer_of (closed_block K n f B w i) ≡ None)
    unfolding closed_block closed_by
    ends_round O E q =
        let e = opened_head i t in
        let (x, y) = round_ends opened (opened_is_block i) (opened_offer i t O.taken) (w.calls i) (ends_with K B.round)
        (rw e O.inside) E in
        rw q (x ∙ ap (λ (h : Head). round_ended (heard_by h (hearings (w.calls i)))) e, y)

    -- its closing is not refused
    closes_round : Opens K n f B.round R i → EndsBy (ends_with K B.round) opened (w.calls i)
        → IsClosed (close (heard_by (opened_by K n f R i) (hearings (w.calls i)))).closed
    closes_round O E =
        let e = opened_head i t in
        rw e at (round_closes opened (opened_is_block i) (opened_offer i t O.taken) (w.calls i) (ends_with K B.round) (rw e O.inside) E)

    -- and a marked one is left with any block
    left_head : bit_of w.marks i ≡ true → head_of (closed_block K n f B w i) ≡ closed_by K n f R (as_device w) i
    unfolding closed_block closed_by
    left_head q = rw q refl

    closed_head : (bit_of w.marks i ≡ false → Opens K n f B.round R i × EndsBy (ends_with K B.round) opened (w.calls i))
        → head_of (closed_block K n f B w i) ≡ closed_by K n f R (as_device w) i
    closed_head sound = go (bit_of w.marks i) refl
      where
        go : (c : Bool) → bit_of w.marks i ≡ c → head_of (closed_block K n f B w i) ≡ closed_by K n f R (as_device w) i
        go true q = left_head q
        go false q = let (O, E) = sound q in (ends_round O E q).0

  closed_is_block : (w : BlockRound) → ((i : ℕ) → IsBlock (w.left i)) → (i : ℕ) → IsBlock (closed_block K n f B w i)
  unfolding closed_block block_by
  closed_is_block w left i = go (bit_of w.marks i)
    where
      by_block : (C : List BlockCall) (b : List ℕ) → IsBlock b → IsBlock (block_by b C)
      by_block [] b e = e
      by_block (c ∷ C) b e = by_block C _ (block_after_lem b e (call_of c))

      go : (c : Bool) → IsBlock
          (cond c (w.left i) (block_after (block_by (opened_block K n f B i) (w.calls i)) (end_call (ends_with K B.round))))
      go true = left i
      go false = block_after_lem _ (by_block (w.calls i) _ (opened_is_block i)) _

  pub next_same : (w : BlockRound) → RoundServed K n f B w m
      → ((i : ℕ) → is_receiver n m i ≡ true → bit_of w.marks i ≡ false → Opens K n f B.round R i)
      → SameRing n m (after_blocks K n f B w) (after_devices K n f R (as_device w))
  unfolding after_blocks after_devices
  next_same w W O =
      record {
        phase = rw (S.round, S.phase);
        round = rw S.round;
        before = refl;
        heads = λ i t. closed_head w i t (λ q. (O i t q, W.ends i t q));
        blocks = closed_is_block w W.left;
        offers = λ i t q. (ends_round w i t (O i t q) (W.ends i t q) q).1;
      }

  pub ends_as : (w : BlockRound) → RoundServed K n f B w m
      → ((i : ℕ) → is_receiver n m i ≡ true → bit_of w.marks i ≡ false → Opens K n f B.round R i) → EndsIt K n f R (as_device w) m
  ends_as w W O i t q = closes_round w i t (O i t q) (W.ends i t q)

  -- an unmarked device as the next round opens
  pub opens_in : n ≤ 32 → m ≤ 16 → Known K n m f R → (w : BlockRound) (i : ℕ)
      → is_receiver n m i ≡ true → bit_of w.marks i ≡ false → Opens K n f B.round R i
  opens_in most few-m A w i t q =
      let (F, number, now, family) = opens_known K n m f most few-m R A (as_device w) i t q in
      record {
        taken = restarts_known K n m f most few-m R A (as_device w) i t;
        inside = record { proper = F.proper; now = ap₂ ends_with family (now ∙ sym S.round); runs = F.runs };
      }

pub served : {K : Family} {n m f : ℕ} {B : BlockRing} {w : BlockRound} → RoundWithin K n f B w m → RoundServed K n f B w m
served W = record { carries = W.carries; ends = W.ends; left = W.left }

-- ---- a run

module _ (K : Family) (n f : ℕ) (v : ℕ → ℤ) (memory : ℕ → List ℕ) where
  abbrev pub as_devices : List BlockRound → List DeviceRound
  as_devices [] = []
  as_devices (w ∷ ws) = as_device w ∷ as_devices ws

  pub as_many : (ws : List BlockRound) → length (as_devices ws) ≡ length ws
  as_many [] = refl
  as_many (w ∷ ws) = ap suc (as_many ws)

  same_marks : (ws : List BlockRound) → device_marks (as_devices ws) ≡ block_marks ws
  unfolding device_marks block_marks
  same_marks [] = refl
  same_marks (w ∷ ws) = ap (λ (xs : List ℕ). w.marks ∷ xs) (same_marks ws)

  abbrev pub held : ℕ → Head
  held i = head_of (memory i)

  module _ (i : ℕ) (whole : IsBlock (memory i)) where
    started_head : head_of (started_block K n f v memory i) ≡ started_by K n f v held i
    unfolding started_block started_by
    started_head = go (ltb i 32)
      where
        go : (c : Bool) → head_of (block_after (memory i) (cond c (starts K n f i (v i)) (starts_listener K n f i)))
            ≡ (cond c (start (held i) K n f i (v i)) (start_listener (held i) K n f i)).head
        go true = head_started (memory i) whole K n f i (v i)
        go false = listener_started (memory i) whole K n f i

    started_offer : (cond (ltb i 32) (start (held i) K n f i (v i)) (start_listener (held i) K n f i)).refusal ≡ 0
        → offer_of (started_block K n f v memory i) ≡ None
    unfolding started_block block_after
    started_offer = go (ltb i 32)
      where
        go : (c : Bool) → (cond c (start (held i) K n f i (v i)) (start_listener (held i) K n f i)).refusal ≡ 0
            → offer_of (block_after (memory i) (cond c (starts K n f i (v i)) (starts_listener K n f i))) ≡ None
        go true e =
            offer_after_lem (memory i) whole _ (start (held i) K n f i (v i)) ∙ ap (λ (c : ℕ). lapsed c (offer_of (memory i))) e
        go false e =
            offer_after_lem (memory i) whole _ (start_listener (held i) K n f i) ∙ ap (λ (c : ℕ). lapsed c (offer_of (memory i))) e

    started_is_block : IsBlock (started_block K n f v memory i)
    unfolding started_block
    started_is_block = block_after_lem (memory i) whole _

-- the rounds before
pub earlier : {K : Family} {n m f : ℕ} {v : ℕ → ℤ} {memory : ℕ → List ℕ} {w : BlockRound} {ws : List BlockRound}
    → BlocksWithin K n m f v memory (w ∷ ws)
    → BlocksWithin K n m f v memory ws
earlier X =
    record {
      most = X.most;
      listeners = X.listeners;
      size = X.size;
      range = X.range;
      blocks = X.blocks;
      each = X.each.1;
      rounds = omega (arith, X.rounds);
    }

module _ (K : Family) (n m f : ℕ) (v : ℕ → ℤ) (memory : ℕ → List ℕ) where
  abbrev B : List BlockRound → BlockRing
  B = blocks_after K n f v memory

  abbrev records : ℕ → Head
  records = held K n f v memory

  abbrev D : List BlockRound → List DeviceRound
  D = as_devices K n f v memory

  abbrev R : List BlockRound → Ring
  R ws = devices_after K n f v records (D ws)

  within_as : {ws : List BlockRound} → BlocksWithin K n m f v memory ws → RoundsWithin K n f v records m (D ws)
      → DevicesWithin K n m f v records (D ws)
  within_as {ws} X W =
      let y = as_many K n f v memory ws in
      record { most = X.most; listeners = X.listeners; size = X.size; range = X.range; each = W; rounds = omega (arith, X.rounds) }

  -- an unmarked device as the next round opens
  pub opens : (ws : List BlockRound) → SameRing n m (B ws) (R ws) → DevicesWithin K n m f v records (D ws) → length ws < most_rounds K
      → (w : BlockRound) (i : ℕ)
      → is_receiver n m i ≡ true → bit_of w.marks i ≡ false → Opens K n f (B ws).round (R ws) i
  opens ws S Y l w =
      let y = as_many K n f v memory ws in
      opens_in K n m f (B ws) (R ws) S Y.most Y.listeners (known K n m f v records (D ws) Y (as_device w) (omega arith)) w

  -- the same after each of these rounds
  abbrev pub Along : List BlockRound → Type 0
  Along [] = SameRing n m (B []) (R [])
  Along (w ∷ ws) = SameRing n m (B (w ∷ ws)) (R (w ∷ ws)) × Along ws

  pub same_here : (ws : List BlockRound) → Along ws → SameRing n m (B ws) (R ws)
  same_here [] A = A
  same_here (w ∷ ws) A = A.0

  -- the start
  pub same_start : BlocksWithin K n m f v memory [] → Along []
  unfolding blocks_after devices_after
  same_start X =
      record {
        phase = refl;
        round = refl;
        before = refl;
        heads = λ i t. started_head K n f v memory i (X.blocks i);
        blocks = λ i. started_is_block K n f v memory i (X.blocks i);
        offers = λ i t q. started_offer K n f v memory i (X.blocks i) (starts_taken K n m f v records [] (within_as X tt) i t);
      }

  blocks_along : (ws : List BlockRound) → BlocksWithin K n m f v memory ws → Along ws × DevicesWithin K n m f v records (D ws)
  unfolding blocks_after devices_after
  blocks_along [] X = (same_start X, within_as X tt)
  blocks_along (w ∷ ws) X = next (blocks_along ws (earlier X))
    where
      next : Along ws × DevicesWithin K n m f v records (D ws) → Along (w ∷ ws) × DevicesWithin K n m f v records (as_device w ∷ D ws)
      next (A, Y) =
          let W = X.each.0 in
          let S = same_here ws A in (
            (next_same K n m f (B ws) (R ws) S w (served W) (opens ws S Y (omega (arith, X.rounds)) w), A),
            within_as X (W.few, carries_as K n m f (B ws) (R ws) S w W.carries, Y.each),
          )

  pub blocks_same : (ws : List BlockRound) → BlocksWithin K n m f v memory ws
      → SameRing n m (B ws) (R ws) × DevicesWithin K n m f v records (D ws)
  blocks_same ws X = let (A, Y) = blocks_along ws X in (same_here ws A, Y)

  end_same : (w : BlockRound) (ws : List BlockRound) → Along (w ∷ ws)
      → SameRecords n m (phase_end K (B ws).before w.marks (block_heads K n f v memory (w ∷ ws)))
      (phase_end K (R ws).before w.marks (R (w ∷ ws)).heads)
  end_same w ws A =
      phase_same K n m _ _ w.marks _ (λ i. refl) (λ i q. A.0.heads i (sound_receives n m w.marks i q).0)

  start_same : ((i : ℕ) → IsBlock (memory i)) → (j : ℕ) → block_heads K n f v memory [] j ≡ started_by K n f v records j
  unfolding blocks_after
  start_same whole j = started_head K n f v memory j (whole j)

  pub ends_same : ((i : ℕ) → IsBlock (memory i)) → (ws : List BlockRound) → Along ws
      → SameEnds n m (ends_of_blocks K n f v memory ws) (ends_of_devices K n f v records (D ws))
  unfolding ends_of_blocks ends_of_devices
  ends_same whole [] A = record { many = refl; each = first }
    where
      start_end_lem : (ℕ → Head) → PhaseEnd
      start_end_lem h = record { collect = 0; confess = 0; struck = all_listeners; heads = h }

      first : (i : ℕ) → SameRecords n m (get_or (start_end_lem (block_heads K n f v memory []) ∷ []) i no_end)
          (get_or (start_end_lem (started_by K n f v records) ∷ []) i no_end)
      first zero = record { struck = λ j. refl; heads = λ j q. start_same whole j }
      first (suc i) = record { struck = λ j. refl; heads = λ j q. refl }
  ends_same whole (w ∷ ws) A =
      rw (same_here ws A.1).round (same_with n m (ends_with K (R ws).round) (end_same w ws A) (ends_same whole ws A.1))

pub blocks_converge : BlocksConverge
blocks_converge K n m f v memory ws X =
    let (A, Y) = blocks_along K n m f v memory ws X in
    promised_same (ends_same K n m f v memory X.blocks ws A) (λ i t q. (same_here K n m f v memory ws A).heads i t)
    (rw (same_marks K n f v memory ws) at (devices_converge K n m f v (held K n f v memory) (as_devices K n f v memory ws) Y))
