-- A slot that is cut short, or lies past the end, has fewer bytes.
use mathlib.Core.Path.{◌≡◌, sym, ◌∙◌}
use mathlib.Core.List.{List, []}
use Prim.Native.Nat.{ℕ, ◌+◌, ◌-◌, ◌*◌, ◌≤◌}
use native.Mathlib.Omega.{arith}
use lib.ListN.{length, get_or, take, drop, drop_of_length-le, length-drop}
use lib.Seq.{take-nil, take_all}
use Rattle.frame_slots.specs.Slots.{slot, planted_in}

module _ (bytes lengths : List ℕ) (k : ℕ) where
  pub slot_past : length bytes ≤ 140 * k → [] ≡ slot bytes lengths k
  unfolding slot
  slot_past h = rw (drop_of_length-le bytes h) (sym (take-nil (get_or lengths k 0)))

  pub slot_short : {len : ℕ} → len ≡ get_or lengths k 0 → length bytes - 140 * k ≤ len
      → take (length bytes - 140 * k) (drop (140 * k) bytes) ≡ slot bytes lengths k
  unfolding slot
  slot_short e h =
      let size = length-drop (140 * k) bytes in
      take_all (length bytes - 140 * k) (drop (140 * k) bytes) (omega arith) ∙ sym (take_all (get_or lengths k 0) (drop (140 * k) bytes) (omega arith))

  pub slot_whole : {len : ℕ} → len ≡ get_or lengths k 0 → take (140 * k + len - 140 * k) (drop (140 * k) bytes) ≡ slot bytes lengths k
  unfolding slot
  slot_whole {len} e = let q : 140 * k + len - 140 * k ≡ get_or lengths k 0 = omega arith in rw q

-- a slot of no bytes
pub planted_none : (bytes lengths : List ℕ) (k i : ℕ) → get_or lengths (48 * k + i) 0 ≡ 0 → planted_in bytes lengths k i ≡ []
unfolding slot
planted_none bytes lengths k i e = rw e
