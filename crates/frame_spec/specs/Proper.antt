-- What the laws of frames speak of: which meanings are accepted, which a frame can say to a ring of n heads, and in which round.
use Rattle.std.specs.Prelude.{◌≡◌, true, List, ℕ, ◌^◌, ◌≤◌, ◌<◌, length, get_or, pos, None, Some}
use Rattle.terms.specs.Positions.{is_position}
use Rattle.terms.specs.declared.Table.{Table}
use Rattle.marks.specs.Marks.{bit_of}
use Rattle.entries.specs.Entries.{fits}
use Rattle.frame_spec.specs.Said.{Meaning, refused, collected, listed, confessed}

-- bytes, as a slice of the machine has them
abbrev pub AllBytes : List ℕ → Type 0
AllBytes s = (i : ℕ) → get_or s i 0 < 256

abbrev pub AcceptedMeaning : Meaning → Type 0
AcceptedMeaning (refused c) = ⊥
AcceptedMeaning (collected e) = Unit {0}
AcceptedMeaning (listed t) = Unit {0}
AcceptedMeaning confessed = Unit {0}

-- a table of n entries: positions if they are marked, and else 0
pub record ProperTable (n : ℕ) (t : Table) : Type 0 where
  pub below : t.marks < 2 ^ n
  pub long : length t.entries ≡ 32
  pub fit : (j : ℕ) → j < n → fits (bit_of t.marks j) (get_or t.entries j (pos 0)) ≡ true
  pub none : (j : ℕ) → n ≤ j → get_or t.entries j (pos 0) ≡ pos 0

-- a meaning that a frame can say to a ring of n heads
abbrev pub Proper : ℕ → Meaning → Type 0
Proper n (refused c) = ⊥
Proper n (collected None) = Unit {0}
Proper n (collected (Some v)) = is_position v ≡ true
Proper n (listed t) = ProperTable n t
Proper n confessed = Unit {0}

-- the round in which it is said: 0 collection, 1 confession
abbrev pub round_of_meaning : Meaning → ℕ
round_of_meaning (refused c) = 2
round_of_meaning (collected e) = 0
round_of_meaning (listed t) = 1
round_of_meaning confessed = 1
