-- Cables that carry, and calls that are not refused, of blocks: by what ring_devices has of records.
use Rattle.std.specs.Prelude.{Ok}
use mathlib.Core.Path.{◌≡◌, refl, ap, sym, subst, ◌∙◌}
use mathlib.Core.Bool.{Bool, true, false, cond, true≢false}
use mathlib.Core.Logic.{inl}
use mathlib.Core.List.{List, [], ◌∷◌}
use Prim.Native.Nat.{ℕ, suc, ◌≤◌, ◌<◌}
use native.Mathlib.Omega.{arith}
use lib.Dec.{ltb}
use lib.ListN.{length, take}
use lib.IntN.{ℤ}
use Rattle.terms.specs.Sizes.{ends_with}
use Rattle.terms.specs.declared.Family.{Family}
use Rattle.marks.specs.Marks.{bit_of}
use Rattle.terms.specs.Counting.{AtMost}
use Rattle.frame_spec.specs.Length.{Written}
use Rattle.head_spec.specs.declared.Head.{Head}
use Rattle.head_spec.specs.declared.Closed.{Closed}
use Rattle.head_spec.specs.Calls.{restart, restart_listener, said_to, write_answer, write_buffer, close}
use Rattle.head_lent.specs.Answers.{closed_number}
use Rattle.head_c.specs.Blocks.{IsBlock, head_of, offer_of}
use Rattle.head_c.specs.Events.{restarts, restarts_listener, closes, adopts, number_after, block_after}
use Rattle.ring_spec.specs.Rounds.{Ring, most_rounds, is_receiver}
use Rattle.ring_devices.specs.Devices.{HearCall, heard_by, brought_by, is_accepted, DeviceRound, again, opened_by, devices_after, DevicesWithin, ClosesUnrefused}
use Rattle.ring_devices.specs.Cables.{each_once}
use Rattle.ring_devices.proofs.Planting.{head_receives}
use Rattle.ring_devices.proofs.Devices.{devices_unrefused, frames_taken}
use Rattle.ring_devices.proofs.Cables.{first_alone, once_comes, once_alone, cable_there}
use Rattle.ring_blocks.specs.Blocks.{BlockCall, block_by, hearings, NoneCloses, EndsBy, BlockRound, BlockRing, again_call, opened_block, frame_of_block, CarriesTo, RoundWithin, blocks_after, BlocksWithin}
use Rattle.ring_blocks.specs.Cables.{BlocksUnrefused, BringsTo, then_offered, plainly_to, CablesCarryTo, BlockCableThere, plain_run, RunThere, Strike}
use Rattle.ring_blocks.proofs.Calls.{Held, InRound, stays_in, calls_left, adopts_then}
use Rattle.ring_blocks.proofs.Converges.{as_device, as_devices, as_many, held, SameRing, Opens, opens, opened_head, opened_offer, opened_is_block, carries_as, blocks_same, earlier}

-- ---- after rounds within the limits, a next one

module _ (K : Family) (n m f : ℕ) (v : ℕ → ℤ) (memory : ℕ → List ℕ) (ws : List BlockRound) (X : BlocksWithin K n m f v memory ws)
    (l : length ws < most_rounds K) where
  abbrev B : BlockRing
  B = blocks_after K n f v memory ws

  abbrev records : ℕ → Head
  records = held K n f v memory

  abbrev us : List DeviceRound
  us = as_devices K n f v memory ws

  abbrev R : Ring
  R = devices_after K n f v records us

  S : SameRing n m B R
  S = (blocks_same K n m f v memory ws X).0

  Y : DevicesWithin K n m f v records us
  Y = (blocks_same K n m f v memory ws X).1

  short : length us < most_rounds K
  short = let y = as_many K n f v memory ws in omega arith

  abbrev last : Bool
  last = ends_with K B.round

  -- what calls make of an unmarked device
  module _ (w : BlockRound) (i : ℕ) (t : is_receiver n m i ≡ true) (q : bit_of w.marks i ≡ false) where
    abbrev b₀ : List ℕ
    b₀ = opened_block K n f B i

    O : Opens K n f B.round R i
    O = opens K n m f v memory ws S Y l w i t q

    inside : InRound last (head_of b₀)
    inside = rw (opened_head K n m f B R S i t) O.inside

    module _ (C : List BlockCall) (ok : last ≡ false → NoneCloses C) where
      abbrev b : List ℕ
      b = block_by b₀ C

      left : IsBlock b × (head_of b ≡ heard_by (head_of b₀) (hearings C)) × Held (head_of b) (offer_of b)
      left = calls_left C b₀ (opened_is_block K n m f B R S i) inside (inl (opened_offer K n m f B R S i t O.taken)) ok

      heard_as_lem : head_of b ≡ heard_by (opened_by K n f R i) (hearings C)
      heard_as_lem = left.1 ∙ ap (λ (h : Head). heard_by h (hearings C)) (opened_head K n m f B R S i t)

      -- when all is heard: closing is not refused, and neither is adopting after it
      module _ (ends : ClosesUnrefused (ends_with K R.round) (close (heard_by (opened_by K n f R i) (hearings C))).closed) where
        ends_in : ClosesUnrefused last (close (head_of b)).closed
        ends_in = subst (λ (r : ℕ). ClosesUnrefused (ends_with K r) (close (head_of b)).closed) (sym S.round) (rw heard_as_lem ends)

        close_number : number_after b closes ≡ 0
        close_number = go last (close (head_of b)).closed ends_in
          where
            go : (r : Bool) (c : Closed) → ClosesUnrefused r c → closed_number c ≡ 0
            go false c e = rw e
            go true c e = rw e.1

        adopt_number : last ≡ true → number_after (block_after b closes) adopts ≡ 0
        adopt_number o =
            let k = (rw o at ends_in) in
            adopts_then b left.0 left.2 (rw left.1 (stays_in (hearings C) (rw o at inside))) k.1

  restart_number : (i : ℕ) → is_receiver n m i ≡ true → (again K n f (R.heads i) i R.phase R.round).refusal ≡ 0
      → number_after (B.blocks i) (again_call K n f i B.phase B.round) ≡ 0
  restart_number i t = rw (S.phase, S.round) (go (ltb i 32))
    where
      go : (c : Bool) → (cond c (restart (R.heads i) K n f i R.phase R.round)
          (restart_listener (R.heads i) K n f i R.phase R.round)).refusal ≡ 0
          → number_after (B.blocks i) (cond c (restarts K n f i R.phase R.round) (restarts_listener K n f i R.phase R.round)) ≡ 0
      go true e = ap (λ (h : Head). (restart h K n f i R.phase R.round).refusal) (S.heads i t) ∙ e
      go false e = ap (λ (h : Head). (restart_listener h K n f i R.phase R.round).refusal) (S.heads i t) ∙ e

  -- ---- cables

  abbrev frames : ℕ → List ℕ
  frames = frame_of_block K n f B

  brings_carries : (w : BlockRound) → BringsTo K n f B w m → CarriesTo K n f B w m
  brings_carries w brings i k t q b e =
      let x = opened_head K n m f B R S i t in
      let z = opened_head K n m f B R S k (head_receives n m k b) in
      let good : is_accepted (said_to (head_of (opened_block K n f B i)).seat k (frames k)) ≡ true =
      rw (x, z) (frames_taken K n m f v records us Y (as_device w) short i k t q b e) in
      let (comes, alone) = brings i k t q b e in
      first_alone (head_of (opened_block K n f B i)).seat k (frames k) good (brought_by (hearings (w.calls i))) comes alone

  -- a round of which this much is known closes well
  next_within : (w : BlockRound) → AtMost f n (bit_of w.marks) → CarriesTo K n f B w m → DevicesWithin K n m f v records (as_device w ∷ us)
  next_within w few carries =
      record {
        most = X.most;
        listeners = X.listeners;
        size = X.size;
        range = X.range;
        each = (few, carries_as K n m f B R S w carries, Y.each);
        rounds = omega (arith, short);
      }

  -- ---- the plainest round

  module _ (marks : ℕ) (left-with : ℕ → List ℕ) (few : AtMost f n (bit_of marks)) (blocks : (i : ℕ) → IsBlock (left-with i)) where
    abbrev once : List HearCall
    once = each_once frames n

    -- the same without the closing
    abbrev bare : BlockRound
    bare = record { marks = marks; left = left-with; calls = λ i. then_offered K n f B false once }

    abbrev full : BlockRound
    full = plainly_to K n f B marks left-with

    heard_all : (r : Bool) (C : List HearCall) → hearings (then_offered K n f B r C) ≡ C
    unfolding hearings
    heard_all false [] = refl
    heard_all true [] = refl
    heard_all false (c ∷ C) = ap (λ (D : List HearCall). c ∷ D) (heard_all false C)
    heard_all true (c ∷ C) = ap (λ (D : List HearCall). c ∷ D) (heard_all true C)

    none_closes : (C : List HearCall) → NoneCloses (then_offered K n f B false C)
    none_closes [] = tt
    none_closes (c ∷ C) = none_closes C

    -- the closing comes last
    closes_last : (C : List HearCall) (b : List ℕ)
        → block_by b (then_offered K n f B true C) ≡ block_after (block_by b (then_offered K n f B false C)) closes
    unfolding block_by
    closes_last [] b = refl
    closes_last (c ∷ C) b = closes_last C _

    plain_brings : (r : Bool) (w : BlockRound) → ((i : ℕ) → w.calls i ≡ then_offered K n f B r once) → CarriesTo K n f B w m
    plain_brings r w calls =
        brings_carries w
        (λ i k t q b e. rw (calls i, heard_all r once)
        (once_comes frames k n b, once_alone frames k (head_of (opened_block K n f B i)).seat n))

    plain_ends : (i : ℕ) → is_receiver n m i ≡ true → bit_of marks i ≡ false → EndsBy last (opened_block K n f B i) (full.calls i)
    plain_ends i t q = go last refl
      where
        N : ClosesUnrefused (ends_with K R.round) (close (heard_by (opened_by K n f R i) (hearings (bare.calls i)))).closed
        N =
            (devices_unrefused K n m f v records (as_device bare) us
            (next_within bare few (plain_brings false bare (λ j. refl)))).closes i t q

        go : (r : Bool) → last ≡ r → EndsBy r (opened_block K n f B i) (then_offered K n f B r once)
        go false o = none_closes once
        go true o =
            rw (closes_last once (opened_block K n f B i))
            (adopt_number bare i t q (then_offered K n f B false once) (λ e. none_closes once) N o)

    plain_within : RoundWithin K n f B full m
    plain_within = record { few = few; carries = plain_brings last full (λ i. refl); ends = plain_ends; left = blocks }

  -- ---- an unmarked head writes its frame

  writes_frame : (w : BlockRound) (k : ℕ) → k < n → bit_of w.marks k ≡ false → (C : List BlockCall) → (last ≡ false → NoneCloses C)
      → (buffer : List ℕ)
      → let s = frames k in length s ≤ length buffer → let h = head_of (block_by (opened_block K n f B k) C) in
      (write_answer h buffer ≡ Ok (length s)) × (take (length s) (write_buffer h buffer) ≡ s)
  writes_frame w k b q C ok buffer room =
      let t = head_receives n m k b in
      let z = opened_head K n m f B R S k t in
      rw (heard_as_lem w k t q C ok, z) ((cable_there K n m f v records us Y short).writes (as_device w) k b q (hearings C) buffer (rw z at room))

  pub cables_carry : CablesCarryTo K n m f B
  cables_carry = record { brings = brings_carries; plain = plain_within; writes = writes_frame }

pub block_cable_there : BlockCableThere
block_cable_there = cables_carry

-- ---- no call is refused

pub blocks_unrefused : BlocksUnrefused
blocks_unrefused K n m f v memory w ws X =
    let Z = earlier X in
    let l : length ws < most_rounds K = omega (arith, X.rounds) in
    let W = X.each.0 in
    let N = devices_unrefused K n m f v (held K n f v memory) (as_device w) (as_devices K n f v memory ws)
    (next_within K n m f v memory ws Z l w W.few W.carries) in
    record {
      restarted = λ i t. restart_number K n m f v memory ws Z l i t (N.restarts i t);
      closed =
          λ i t q. (
            close_number K n m f v memory ws Z l w i t q (w.calls i) (none _ _ _ (W.ends i t q)) (N.closes i t q),
            adopt_number K n m f v memory ws Z l w i t q (w.calls i) (none _ _ _ (W.ends i t q)) (N.closes i t q),
          );
    }
  where
    none : (r : Bool) (b : List ℕ) (C : List BlockCall) → EndsBy r b C → r ≡ false → NoneCloses C
    none false b C E e = E
    none true b C E e = absurd (true≢false e)

-- ---- a run

pub run_there : RunThere
unfolding plain_run
run_there K n m f v memory [] most few size range blocks W l =
    record { most = most; listeners = few; size = size; range = range; blocks = blocks; each = tt; rounds = l }
run_there K n m f v memory (x ∷ xs) most few size range blocks W l =
    let X = run_there K n m f v memory xs most few size range blocks W.2 (omega arith) in
    let y = run_many xs in
    let next = (cables_carry K n m f v memory (plain_run K n f v memory xs) X (omega arith)).plain x.marks x.left W.0 W.1 in
    record { most = most; listeners = few; size = size; range = range; blocks = blocks; each = (next, X.each); rounds = omega arith }
  where
    run_many : (xs : List Strike) → length (plain_run K n f v memory xs) ≡ length xs
    run_many [] = refl
    run_many (x ∷ xs) = ap suc (run_many xs)
