-- Bytes pasted into a list stand where they were pasted, and each part before or behind them is as it was. So a slot holds the bytes stored in it, and
-- any other slot, of at most 140 bytes, what it held.
use mathlib.Core.Path.{◌≡◌, refl, ap, sym, ◌∙◌}
use mathlib.Core.Bool.{Bool, true, false, cond, ◌&&◌, and-false}
use mathlib.Core.List.{List, ◌++◌, append_assoc}
use Prim.Native.Nat.{ℕ, ◌+◌, ◌*◌, ◌-◌, ◌≤◌, ◌<◌}
use native.Mathlib.Omega.{arith}
use native.Mathlib.Decide.{dec_lt}
use borrow.Author.Tests.{eqb-true, eqb-false, ne_eqb, lt-ltb, le-ltb, le-leb, lt-leb}
use lib.Dec.{eqb}
use lib.ListN.{length, get_or, set, take, drop, length-take, length-drop, take-append-drop}
use lib.Seq.{take-append-le, drop-append-le, take-append_seam, drop_at, take-length, length-take-le, drop-drop, get_or-set_same, get_or-set_other, paste, drop-paste}
use Rattle.fields.proofs.Copying.{copied_fits}
use Rattle.frame_slots.specs.Slots.{slot, planted_in, is_plantable, with_planted, with_length}

-- a part of the first of two lists
part_front : (h x : List ℕ) (from n : ℕ) → from + n ≤ length h → take n (drop from (h ++ x)) ≡ take n (drop from h)
part_front h x from n l = rw (drop-append-le from h x (omega arith)) (take-append-le n (drop from h) x (simp length-drop (omega arith)))

module _ (d b : List ℕ) (at : ℕ) (fits : at + length b ≤ length d) where
  abbrev pasted : List ℕ
  pasted = paste d at b (length b)

  is_pasted : pasted ≡ take at d ++ (b ++ drop (at + length b) d)
  is_pasted = rw (take-length b) (append_assoc (take at d) b (drop (at + length b) d))

  part_pasted : take (length b) (drop at pasted) ≡ b
  part_pasted = rw (is_pasted, drop_at (take at d) (b ++ drop (at + length b) d) at (length-take-le at d (omega arith))) (take-append_seam b _)

  part_before : (from n : ℕ) → from + n ≤ at → take n (drop from pasted) ≡ take n (drop from d)
  part_before from n l =
      let long : from + n ≤ length (take at d) = rw (length-take-le at d (omega arith)) l in
      ap (λ (x : List ℕ). take n (drop from x)) is_pasted
      ∙ part_front (take at d) _ from n long
      ∙ sym (part_front (take at d) (drop at d) from n long)
      ∙ ap (λ (x : List ℕ). take n (drop from x)) (take-append-drop at d)

  part_behind : (from : ℕ) → at + length b ≤ from → drop from pasted ≡ drop from d
  part_behind from l =
      let n = at + length b in
      let e : n + (from - n) ≡ from = omega arith in
      rw (← e) (sym (drop-drop (from - n) n pasted) ∙ ap (drop (from - n)) (drop-paste d at b (length b) (omega arith) (omega arith)) ∙ drop-drop (from - n) n d)

module _ (d l b : List ℕ) (k i : ℕ) (hd : length d ≡ 215040) (hl : length l ≡ 1536) (hk : k < 32) (hi : i < 48) (hb : length b ≤ 140) (j m : ℕ)
    (hm : m < 48) where
  abbrev after : List ℕ
  after = planted_in (paste d (140 * (48 * k + i)) b (length b)) (set l (48 * k + i) (length b)) j m

  there : k ≡ j → i ≡ m → after ≡ b
  unfolding slot
  there e q = rw (← e, ← q, get_or-set_same l (48 * k + i) (length b) 0 (omega arith)) (part_pasted d b (140 * (48 * k + i)) (omega arith))

  elsewhere : (48 * j + m ≡ 48 * k + i → ⊥) → length (planted_in d l j m) ≤ 140 → after ≡ planted_in d l j m
  unfolding slot
  elsewhere other short =
      rw (get_or-set_other l (48 * k + i) (48 * j + m) (length b) 0 other) (go (dec_lt (48 * j + m) (48 * k + i)))
    where
      n : ℕ
      n = get_or l (48 * j + m) 0

      go : Dec (48 * j + m < 48 * k + i)
          → take n (drop (140 * (48 * j + m)) (paste d (140 * (48 * k + i)) b (length b))) ≡ take n (drop (140 * (48 * j + m)) d)
      go (yes h) =
          part_before d b (140 * (48 * k + i)) (omega arith) (140 * (48 * j + m)) n (omega (arith, simp (length-take, length-drop) at short))
      go (no h) = ap (take n) (part_behind d b (140 * (48 * k + i)) (omega arith) (140 * (48 * j + m)) (omega arith))

  pub planted_after : length (planted_in d l j m) ≤ 140 → after ≡ cond (eqb k j && eqb i m) b (planted_in d l j m)
  planted_after short = go (eqb k j) (eqb i m) refl refl
    where
      go : (x y : Bool) → eqb k j ≡ x → eqb i m ≡ y → after ≡ cond (x && y) b (planted_in d l j m)
      go true true e q = there (eqb-true k j e) (eqb-true i m q)
      go true false e q = elsewhere (λ s. eqb-false i m q (omega arith)) short
      go false y e q = elsewhere (λ s. eqb-false k j e (omega arith)) short

-- ---- what planting makes of the slots

-- whether bytes can be planted, by what the code tests
module _ (k i : ℕ) (b : List ℕ) where
  pub plantable : k < 32 → i < 48 → length b ≤ 140 → is_plantable k i b ≡ true
  plantable hk hi hb = rw (lt-ltb k 32 hk, lt-ltb i 48 hi, le-leb (length b) 140 hb)

  pub no_sender : 32 ≤ k → is_plantable k i b ≡ false
  no_sender h = rw (le-ltb k 32 h)

  pub no_receiver : 48 ≤ i → is_plantable k i b ≡ false
  no_receiver h = rw (le-ltb i 48 h, and-false)

  pub too_long : 140 < length b → is_plantable k i b ≡ false
  too_long h = rw (lt-leb (length b) 140 h, and-false)

-- a slot of at most 140 bytes holds what was planted on its link, and else what it held
pub planted_then : (d l b : List ℕ) (k i : ℕ) → length d ≡ 215040 → length l ≡ 1536 → length b ≤ 140
    → (j m : ℕ) → j < 32 → m < 48 → length (planted_in d l j m) ≤ 140
    → planted_in (with_planted d k i b) (with_length l k i b) j m ≡ cond (eqb k j && eqb i m) b (planted_in d l j m)
unfolding with_planted with_length
planted_then d l b k i hd hl hb j m hj hm short = go (dec_lt k 32) (dec_lt i 48)
  where
    after : Type 0
    after = planted_in (with_planted d k i b) (with_length l k i b) j m ≡ cond (eqb k j && eqb i m) b (planted_in d l j m)

    go : Dec (k < 32) → Dec (i < 48) → after
    go (yes hk) (yes hi) =
        rw (plantable k i b hk hi hb, copied_fits d (140 * (48 * k + i)) b (omega arith)) (planted_after d l b k i hd hl hk hi hb j m hm short)
    go (yes hk) (no hi) = rw (no_receiver k i b (omega arith), ne_eqb i m (omega arith), and-false)
    go (no hk) x = rw (no_sender k i b (omega arith), ne_eqb k j (omega arith))
