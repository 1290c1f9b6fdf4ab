-- A planted record at the front of a piece: its size, and that it is taken if it has no fault.
use mathlib.Core.Path.{◌≡◌, refl, ap, ap₂, sym, ◌∙◌}
use mathlib.Core.Bool.{Bool, true, false, cond, ◌&&◌}
use mathlib.Core.List.{List, []}
use Prim.Native.Nat.{ℕ, ◌≤◌, ◌<◌}
use native.Mathlib.Omega.{arith}
use native.Mathlib.Decide.{dec_le}
use lib.Dec.{leb, eqb}
use lib.ListN.{length, take, drop, length-drop}
use lib.Seq.{length-take-le, get_or-take}
use borrow.Author.Tests.{le-leb, lt-leb, leb-true, eqb-true}
use Rattle.fields.specs.Bytes.{at2}
use Rattle.run_spec.specs.RunFile.{record_kind, plant, is_plant_length, length_in, kind_in, sender_in, receiver_in, plant_fault, record_fault, judged, read_file}
use Rattle.run_spec.specs.declared.Pair.{Pair}
use Rattle.run_spec.proofs.Whole.{plant_long, Heads, heads_take}
use Rattle.frame_slots.specs.Slots.{PlantedThen}
use Rattle.texts.specs.declared.Text.{Text}
use Rattle.texts.proofs.Writing.{empty_text}
use Rattle.run_state.specs.declared.Player.{Player}
use Rattle.run_state.specs.Memory.{Memory, with_slots}
use Rattle.run_state.specs.Changes.{halted, pair_in, with_pair_planted}
use Rattle.run_state.specs.State.{PlayerOf, MemoryOf}
use Rattle.run_state.proofs.Told.{plant_fault_as}
use Rattle.run_record.specs.Next.{allowed_to, Next}
use Rattle.run_record.proofs.Records.{judged_taken, plant_next}
use Rattle.run_piece.specs.Advances.{StateAt, AdvancesOnce}
use Rattle.run_piece.specs.Steps.{Waits, plant_size, plant_passed}
use Rattle.run_piece.specs.Inner.{BeginsWhole}
use Rattle.run_piece.proofs.Feeding.{none_there, stands_there}

-- a piece begins with a whole planted record of this size
pub record Plants (s : List ℕ) (size : ℕ) : Type 0 where
  pub kind : kind_in s ≡ plant
  pub long : size ≡ length_in s
  pub within : size ≤ length s
  pub fits : is_plant_length size ≡ true

pub size_plants : (s : List ℕ) {size : ℕ} → size ≡ plant_size s → (size ≡ 0 → ⊥) → Plants s size
size_plants s {size} = go (eqb (at2 s 2) 0x12) (leb (length_in s) (length s)) (is_plant_length (length_in s)) refl refl refl
  where
    go : (a b c : Bool) → eqb (at2 s 2) 0x12 ≡ a → leb (length_in s) (length s) ≡ b → is_plant_length (length_in s) ≡ c → size ≡ cond (a && b && c) (length_in s) 0
        → (size ≡ 0 → ⊥) → Plants s size
    go true true true a b c e some = record { kind = ap record_kind (eqb-true (at2 s 2) 0x12 a); long = e; within = omega (arith, leb-true (length_in s) (length s) b); fits = rw e c }
    go true true false a b c e some = absurd (some e)
    go true false c a b d e some = absurd (some e)
    go false b c a d f e some = absurd (some e)

-- fewer than six bytes are none
pub size_short : (s : List ℕ) → length s < 6 → 0 ≡ plant_size s
size_short s few = go (eqb (at2 s 2) 0x12) (dec_le (length_in s) (length s))
  where
    go : (a : Bool) → Dec (length_in s ≤ length s) → 0 ≡ cond (a && leb (length_in s) (length s) && is_plant_length (length_in s)) (length_in s) 0
    go true (yes l) = rw (le-leb _ _ l, lt-leb 6 (length_in s) (omega arith))
    go true (no l) = rw (lt-leb (length_in s) (length s) (omega arith))
    go false l = refl

pub passed_none : (n m struck : ℕ) (pair : Pair) (s : List ℕ) → 0 ≡ plant_size s → 0 ≡ plant_passed n m struck pair s
passed_none n m struck pair s none = go (eqb (plant_fault n m struck pair s) 0)
  where
    go : (b : Bool) → 0 ≡ cond b (plant_size s) 0
    go true = none
    go false = refl

pub passed_within : (n m struck : ℕ) (pair : Pair) (s : List ℕ) {used : ℕ} → used ≡ plant_passed n m struck pair s → used ≤ length s
passed_within n m struck pair s e = rw e (go (eqb (plant_fault n m struck pair s) 0) (dec_le 1 (plant_size s)))
  where
    go : (b : Bool) → Dec (1 ≤ plant_size s) → cond b (plant_size s) 0 ≤ length s
    go true (yes some) = (size_plants s refl (λ z. omega arith)).within
    go true (no none) = omega arith
    go false d = omega arith

module _ {rest : List ℕ} {used : ℕ} (P : Plants rest used) where
  plant_short : {b : List ℕ} → b ≡ take used rest → length (drop 6 b) ≤ 140
  plant_short {b} e = omega (arith, length-drop 6 b, ap length e, length-take-le used rest P.within, plant_long used P.fits)

  plant_whole : {p : Player} {count number marks : ℕ} {pair : Pair} → Waits p count number marks pair → BeginsWhole p rest
  plant_whole W =
      record {
        fresh = W.fresh;
        within = omega (arith, P.long, P.within);
        long = omega (arith, plant_long used P.fits, P.long);
      }

  plant_allowed : {p : Player} {count number marks : ℕ} {pair : Pair} → Waits p count number marks pair → allowed_to p rest ≡ true
  plant_allowed W = rw (P.kind, W.pending, ← P.long) P.fits

-- a player that waits is whole: with its own last pair it is the same
pub waits_as : {p : Player} {count number marks : ℕ} {pair : Pair} → Waits p count number marks pair → with_pair_planted p pair ≡ p
waits_as {p} W = ap (with_pair_planted p) (sym W.pair) ∙ sym (ap₂ (halted p) W.fresh W.sound)

module _ {a : List ℕ} {p : Player} {before : List ℕ} {M : Memory} (L : StateAt a p before M) {count number marks : ℕ} {pair : Pair} (W : Waits p count number marks pair) where
  -- nothing is taken
  pub none_passed : AdvancesOnce a [] p M (with_pair_planted p pair) [] before M
  none_passed = rw (waits_as W) (none_there L)

  -- a planted record b without a fault is taken
  pub plant_there : {used : ℕ} {b : List ℕ} (rest : List ℕ) → Plants rest used → b ≡ take used rest → plant_fault count number marks pair rest ≡ 0
      → {pair' : Pair} → pair' ≡ pair_in b → {bytes lengths : List ℕ}
      → PlantedThen (sender_in b) (receiver_in b) (drop 6 b) M.planted M.lengths bytes lengths
      → AdvancesOnce a (take used rest) p M (with_pair_planted p pair') [] before (with_slots M bytes lengths)
  plant_there {used} {b} rest P e sound {pair'} l {bytes} {lengths} new =
      let t : Text = record { len = 0; bytes = [] } in
      let q : Player = with_pair_planted p pair' in
      let long = (plant_long used P.fits).0 in
      let same : Heads b rest = rw (← e) at (heads_take used rest (omega arith)) in
      let from : sender_in b ≡ sender_in rest = rw e (get_or-take used rest 4 0 (omega arith)) in
      let to : receiver_in b ≡ receiver_in rest = rw e (get_or-take used rest 5 0 (omega arith)) in
      let taken : (a' : List ℕ) → PlayerOf p (read_file a') → MemoryOf (read_file a') M
      → Next (read_file a') (judged plant (read_file a') b) p M (record { player = q; text = t }) (with_slots M bytes lengths) =
      λ a' T H.
      let fault : record_fault plant (read_file a') b ≡ 0 = plant_fault_as T b ∙ rw (W.n, W.listeners, W.struck, W.pair, from, to) sound in
      rw (judged_taken plant (read_file a') b (sym fault) refl)
      (plant_next b H (plant_short P e) new T (ap (with_pair_planted p) l) refl) in
      rw (empty_text t refl) at
      (stands_there L {r = record { player = q; used = used; text = t }} {t = record { player = q; text = t }} {carry = before} {M' = with_slots M bytes lengths} rest W.sound
      (record { player = refl; used = refl; text = refl })
      (λ a' T H may all. rw (same.kind ∙ P.kind) (taken a' T H))
      (plant_whole P W) (plant_allowed P W) P.long e)
