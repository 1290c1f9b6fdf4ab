-- Which records the player's memory represents. Of an unstruck receiver, head or listener, it holds the position that its record holds, in
-- every round, and in a confession round the list of each unstruck head, as long as the ring has not agreed: after that no list is looked
-- at, and lists are free. All else of a record is as `opened` makes it. A listener's list is never looked at.
use Rattle.std.specs.Prelude.{true, false, ◌≡◌, ℕ, get_or, ℤ, pos, None, Some}
use Rattle.terms.specs.Entry.{Entry}
use Rattle.marks.specs.Marks.{bit_of}
use Rattle.terms.specs.Counting.{Each}
use Rattle.ring_spec.specs.Rounds.{Ring, receivers, is_receiver}
use Rattle.ring_play.specs.Memory.{row_in}
use Rattle.run_state.specs.Memory.{Memory}

-- agreed: the position on which the ring has agreed, null if it has not. Of the heads that were not struck in the round before: round 0
-- finds each with a position; a head healed in collection has none in the confession round (D12)
pub record HeadsOf (n m : ℕ) (agreed : Entry) (R : Ring) (M : Memory) : Type 0 where
  pub collection : R.round ≡ 0
      → Each n (λ i. bit_of R.before i ≡ false → (R.heads i).seat.position ≡ Some (get_or M.positions i (pos 0)))
  pub confession : R.round ≡ 1 → agreed ≡ None → Each n (λ i. bit_of R.before i ≡ false → (R.heads i).list ≡ row_in M.marks M.lists i)
  pub always : Each receivers (λ i. is_receiver n m i ≡ true → bit_of R.before i ≡ false
      → (v : ℤ) → (R.heads i).seat.position ≡ Some v → get_or M.positions i (pos 0) ≡ v)
